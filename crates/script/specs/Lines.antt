-- What a line asks for, by its first word and what is left of it behind that word.
use Rattle.std.specs.Prelude.{◌≡◌, ◌⊎◌, ℕ, List, [], ◌∷◌, ◌++◌, Some, Ok, None, Option, codes, take}
use Rattle.ei.specs.declared.proto.Event.{Event}
use Rattle.ei.specs.declared.proto.Event.TheVariants.{Handshake}
use Rattle.script.specs.Events.{EventLine}
use Rattle.script.specs.Fields.{ReadsNumber, ReadsPair, ReadsSet, ReadsWord}
use Rattle.script.specs.declared.lines.Line.{Line}
use Rattle.script.specs.declared.lines.Line.TheVariants.{Skip, Start, Reading, Take, Next, Callback, Bind, RetireSeat, RetireDevice}
use Rattle.script.specs.declared.lines.Line.TheVariants as OfLine
use Rattle.wording.specs.Words.{after_word, next_word}

-- a handshake, or an interface and a name with a dot between
abbrev pub AsksEvent : List ℕ → Option (List ℕ) → Event → Type 0
AsksEvent w l event = ((event ≡ Handshake) × (w ≡ codes "handshake") × (l ≡ None)) ⊎ ((i n : List ℕ) × (w ≡ i ++ (46 ∷ n)) × EventLine i n l event)

abbrev pub Asks : List ℕ → Option (List ℕ) → Line → Type 0
Asks w l Skip = ⊥
Asks w l (Start serial) = (w ≡ codes "start") × ReadsNumber 32 l (Ok serial) None
Asks w l (Reading micros) = (w ≡ codes "reading") × ReadsNumber 64 l (Ok micros) None
Asks w l Take = (w ≡ codes "take") × (l ≡ None)
Asks w l Next = (w ≡ codes "next") × (l ≡ None)
Asks w l (Callback callback ticket) = (w ≡ codes "callback") × ReadsPair (ReadsNumber 64) (ReadsNumber 32) l callback ticket None
Asks w l (Bind handle set) = (w ≡ codes "bind") × ReadsPair (ReadsNumber 32) (ReadsWord ReadsSet) l handle set None
Asks w l (RetireSeat handle) = (w ≡ codes "retire_seat") × ReadsNumber 32 l (Ok handle) None
Asks w l (RetireDevice handle) = (w ≡ codes "retire_device") × ReadsNumber 32 l (Ok handle) None
Asks w l (OfLine.Event event) = AsksEvent w l event

-- an empty line and one that begins with # ask for nothing, and any other asks by its first word
abbrev pub LineAsks : List ℕ → Line → Type 0
LineAsks bs line = ((line ≡ Skip) × ((bs ≡ []) ⊎ (take 1 bs ≡ codes "#"))) ⊎ ((w : List ℕ) × (next_word (Some bs) ≡ Ok w) × Asks w (after_word (Some bs)) line)
