use Rattle.std.proofs.Common.{rules}
use Rattle.records.specs.declared.device.Detail.TheVariants as details
use Rattle.ei.specs.Texts.{text_of}
use Rattle.tables.proofs.state.Tables.device_event.Goals as goal

pub returns-in-Name : goal.returns-in-Name
returns-in-Name c v = let w = c.device_worded.ensures (details.Name (text_of c.in-Name.name.now)) (λ e h. search rules) v in search rules

pub returns-in-RegionMappingId : goal.returns-in-RegionMappingId
returns-in-RegionMappingId c v = let w = c.device_worded-in-RegionMappingId.ensures (details.MappingId (text_of c.in-RegionMappingId.mapping_id.now)) (λ e h. search rules) v in search rules
