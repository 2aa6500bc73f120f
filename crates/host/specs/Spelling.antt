-- How a note is printed.
use Rattle.std.specs.Prelude.{ℕ, List, ◌++◌, codes, decimal}
use Rattle.host.specs.declared.Note.{Note}
use Rattle.host.specs.declared.Note.TheVariants.{Pong, Run, Bind}

-- the kind and two numbers, with one space between
abbrev pub spelled : Note → List ℕ
spelled (Pong ping «data») = codes "pong " ++ (decimal ping ++ (codes " " ++ decimal «data»))
spelled (Run ticket «data») = codes "run " ++ (decimal ticket ++ (codes " " ++ decimal «data»))
spelled (Bind seat mask) = codes "bind " ++ (decimal seat ++ (codes " " ++ decimal mask))
