-- A text is its bytes: it is read as it was made, and two with the same bytes are the same.
use Rattle.std.proofs.Common.{ap, drop, ◌-◌, ◌≡◌, ℕ, ◌+◌, ◌<◌, ◌≤◌, min, List, ◌++◌, length, get_or, take, replicate, sym, ◌∙◌, ⊎_elim, arith}
use Rattle.std.proofs.Math.Seq.{take-append-add}
use denote.Struct.Record.{values_one}
use Rattle.std.proofs.lemmas.List.{drop-replicate, take-replicate, length-take, get_or_append_left, get_or-take, get_or_past, ext_get_or}
use Rattle.std.proofs.lemmas.Bool.{cases_lt}
use Rattle.ei.specs.contracts.text.Text.{struct, the_propositions}
use Rattle.ei.specs.declared.text.Text.{Text}
use Rattle.ei.specs.Texts.{text_bytes, text_of, padded, padded_long, padded_blank, ReadAsMade, MadeAsRead}

pub same_text : (a b : Text) → a.bytes ≡ b.bytes → a.len ≡ b.len → a ≡ b
same_text a b e f = values_one struct the_propositions a b (λ i. (e i, (f i, tt)))

within : (n : ℕ) (bs : List ℕ) (k : ℕ) → k < n → k < length bs → get_or (padded n bs) k 0 ≡ get_or bs k 0
unfolding padded
within n bs k h w = get_or-take n (bs ++ replicate n 0) k 0 h ∙ get_or_append_left bs (replicate n 0) 0 k w

-- each byte of the padded text is that of the text, or 0 past its end
padded_at : (n : ℕ) (bs : List ℕ) (k : ℕ) → k < n → get_or (padded n bs) k 0 ≡ get_or bs k 0
padded_at n bs k h = ⊎_elim (within n bs k h) (λ past. padded_blank n bs k (omega arith) ∙ sym (get_or_past bs k 0 past)) (cases_lt k (length bs))

-- bytes written over the front of zeros
pub padded_front : (n : ℕ) (bs : List ℕ) → length bs ≤ n → bs ++ drop (length bs) (replicate n 0) ≡ padded n bs
unfolding padded
padded_front n bs h = ap (λ l. bs ++ l) (drop-replicate (length bs) n 0 ∙ sym (take-replicate (n - length bs) n 0 (omega arith))) ∙ sym (ap (λ k. take k (bs ++ replicate n 0)) whole ∙ take-append-add bs (replicate n 0) (n - length bs))
  where
    whole : n ≡ length bs + (n - length bs)
    whole = omega (arith, h)

pub read_as_made : ReadAsMade
unfolding text_of
read_as_made bs h = ext_get_or 0 (take (min (length bs) 128) (padded 128 bs)) bs long (λ k l. get_or-take (min (length bs) 128) (padded 128 bs) k 0 (omega (arith, long)) ∙ padded_at 128 bs k (omega (arith, long)))
  where
    long : length (take (min (length bs) 128) (padded 128 bs)) ≡ length bs
    long = length-take (min (length bs) 128) (padded 128 bs) ∙ omega (arith, padded_long 128 bs)

pub made_as_read : MadeAsRead
unfolding text_of
made_as_read t = same_text (text_of (text_bytes t)) t (ext_get_or 0 (padded 128 (text_bytes t)) t.bytes (padded_long 128 (text_bytes t) ∙ sym t.long) each) (omega (arith, length-take t.len t.bytes, t.fits, t.long))
  where
    each : (k : ℕ) → k < length (padded 128 (text_bytes t)) → get_or (padded 128 (text_bytes t)) k 0 ≡ get_or t.bytes k 0
    each k l = padded_at 128 (text_bytes t) k (omega (arith, padded_long 128 (text_bytes t))) ∙ ⊎_elim (get_or-take t.len t.bytes k 0) (λ past. get_or_past (text_bytes t) k 0 (omega (arith, length-take t.len t.bytes)) ∙ sym (t.blank k past)) (cases_lt k t.len)
