use Rattle.std.proofs.Common.{rules}
use Rattle.converter.proofs.Laws.{lawful}
use Rattle.converter.proofs.convert.EiEventConverter.bind_capabilities.Goals as goal

pub returns-in_err-row-clause-law : goal.returns-in_err-row-clause-law
returns-in_err-row-clause-law g c = lawful g.H.Host.state _ c.args.self.now (search rules) (search rules) (search rules)

pub returns-clause-law : goal.returns-clause-law
returns-clause-law g c = lawful g.H.Host.state _ c.args.self.now (search rules) (search rules) (search rules)
