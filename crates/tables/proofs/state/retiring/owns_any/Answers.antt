use Rattle.std.proofs.Common.{◌∙◌, rules, tests}
use Rattle.std.proofs.lemmas.Iterator.{YieldsList-from_slice}
use Rattle.std.proofs.lemmas.Iterator.Search.{any_from_yields_List}
use Rattle.ei.specs.Capabilities.{every_capability}
use Rattle.records.specs.Listing.{entry_at}
use Rattle.tables.proofs.Found.{is_owned, owned_by_kind}
use Rattle.tables.proofs.state.retiring.owns_any.Goals as goal

pub returns : goal.returns
returns c =
    any_from_yields_List (λ kind. is_owned (entry_at c.args.list.now kind)) _ _ _ c.any.ensures.ran (YieldsList-from_slice every_capability cc) (λ x b q k. search (rules, tests))
    ∙ owned_by_kind c.args.list.now
