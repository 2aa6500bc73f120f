-- What may be absent.
use Rattle.std.specs.Prelude.{Some, None, Option}

-- what comes of what there is, or something else where there is none
abbrev pub at_some : {X Y : Type 0} → Option X → Y → (X → Y) → Y
at_some None d f = d
at_some (Some x) d f = f x
