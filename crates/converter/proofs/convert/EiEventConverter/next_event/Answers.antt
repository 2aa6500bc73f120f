use Rattle.std.proofs.Common.{rules}
use Rattle.converter.proofs.Laws.{lawful}
use Rattle.converter.proofs.convert.EiEventConverter.next_event.Goals as goal

pub returns-in_default-clause-law : goal.returns-in_default-clause-law
returns-in_default-clause-law g c = lawful g.H.Host.state _ c.args.self.now (search rules) (search rules) (search rules)

pub returns-clause-law : goal.returns-clause-law
returns-clause-law g c = lawful g.H.Host.state _ c.args.self.now (search rules) (search rules) (search rules)
