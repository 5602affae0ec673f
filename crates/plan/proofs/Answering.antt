-- The lines of an input are answered one after another.
use Rattle.std.proofs.Common.{◌≡◌, ℕ, ◌<◌, List, [], ◌∷◌, length, Some, None, Ok, Err, Option, Result, IfSome, OnOk, refl, ◌∙◌, arith}
use Rattle.std.specs.Io.KnownBytes.{Appends, IsAtEnd}
use Rattle.std.specs.Io.BufRead.{first_piece, drop_through, DropsThrough}
use Rattle.plan.specs.declared.Deck.{Deck}
use Rattle.plan.specs.Tallies.{tally_text}
use Rattle.plan.specs.Decks.{line_text, LineTold, AllTold, WholeTold}
use Rattle.plan.proofs.Pieces.{first_line}

if_some_by : {X : Type 0} (o : Option X) (P : X → Type 0) → ((x : X) → o ≡ Some x → P x) → IfSome o P
if_some_by None P holds = tt
if_some_by (Some x) P holds = holds x refl

module _ {O : Type 0} (contents : O → Option (List ℕ)) where
  -- what answers the bytes that are left answers, with what is answered, all of them
  abbrev Onward : List ℕ → List ℕ → Deck O → Deck O → Type 0
  Onward bytes left start now = (after : Deck O) → AllTold contents now left after → AllTold contents start bytes after

  one_more : (bytes left line : List ℕ) (start now next : Deck O) → 0 < length left → line ≡ first_piece 10 left → LineTold contents now line next →
      Onward bytes left start now → Onward bytes (drop_through 10 left) start next
  one_more bytes [] line start now next some first told onward = absurd (omega arith)
  one_more bytes (b ∷ bs) line start now next some first told onward =
      λ after rest. onward after (rw (first_line b bs, ← first) (next, told, rest))

  -- an input halfway, cut at this byte: where its bytes are known, so are those that are left
  pub record Halfway (input left : Option (List ℕ)) (byte : ℕ) (start now : Deck O) : Type 0 where
    pub newline : byte ≡ 10
    pub onward : (bytes : List ℕ) → input ≡ Some bytes → (rest : List ℕ) × (left ≡ Some rest) × Onward bytes rest start now

  pub starts : (input left : Option (List ℕ)) (byte : ℕ) (start : Deck O) → byte ≡ 10 → left ≡ input → Halfway input left byte start start
  starts input left byte start newline same = record { newline = newline; onward = λ bytes known. (bytes, same ∙ known, λ after all. all) }

  pub next_line : (input old new : Option (List ℕ)) (byte after : ℕ) (line : List ℕ) (start now next : Deck O) → Halfway input old byte start now → after ≡ byte →
      IfSome old (λ xs. (0 < length xs) × (line ≡ first_piece byte xs)) × DropsThrough old new byte → LineTold contents now line next →
      Halfway input new after start next
  next_line input old new byte after line start now next half same piece told = record {
    newline = same ∙ half.newline;
    onward = λ bytes known.
        let far = half.onward bytes known in
        let cut : ((0 < length far.0) × (line ≡ first_piece 10 far.0)) × (new ≡ Some (drop_through 10 far.0)) = rw (half.newline, far.1) at piece in
        (drop_through 10 far.0, cut.1, one_more bytes far.0 line start now next cut.0.0 cut.0.1 told far.2);
  }

  pub ends : (input left : Option (List ℕ)) (byte : ℕ) (start now : Deck O) → Halfway input left byte start now → IsAtEnd left →
      IfSome input (λ bytes. AllTold contents start bytes now)
  ends input left byte start now half end = if_some_by input _ (λ bytes known.
      let far = half.onward bytes known in
      let none : far.0 ≡ [] = rw far.1 at end in
      far.2 now (rw none refl))

  -- the lines of an input, and then the summary
  pub whole_of : {E : Type 0} (input : Option (List ℕ)) (before ended after : Deck O) (r : Result (Unit {0}) E) →
      IfSome input (λ bytes. AllTold contents before bytes ended) → OnOk r (Appends (contents ended.out) (contents after.out) (line_text (tally_text ended.tally))) →
      OnOk r (IfSome input (λ bytes. WholeTold contents before bytes after))
  whole_of None before ended after (Ok u) lines summary = tt
  whole_of (Some bytes) before ended after (Ok u) lines summary = record { ended = ended; lines = lines; summary = summary }
  whole_of input before ended after (Err e) lines summary = tt
