-- What is written so far, and what is still to be written.
use Rattle.std.proofs.Common.{◌≡◌, ℕ, true, false, cond, List, [], ◌∷◌, ◌++◌, Some, None, Option, Ok, Err, Result, OnOk, refl, sym, ap, ◌∙◌, append_assoc, append-nil}
use Rattle.std.specs.Io.KnownBytes.{Appends}
use Rattle.command.specs.Lines.{command_of}
use Rattle.command.specs.Inputs.{is_newline, kept_with, Fed, fed, followed}
use Rattle.session.specs.declared.answer.Answer.{Answer}
use Rattle.session.specs.declared.fault.LineFault.{LineFault}
use Rattle.session.specs.Answers.{reply_text}
use Rattle.session.specs.Desks.{Desk}
use Rattle.session.specs.Conversations.{desk_in, replied, desk_after}
use Rattle.session.specs.declared.conversation.Conversation.{Conversation}
use Rattle.console.specs.Printed.{printed, answered_by}

abbrev on : Desk → Fed → List (Result Answer LineFault)
on d f = followed (replied d f.said) (answered_by (desk_after d f.said) f.kept f.left)

by_fed : (d : Desk) (kept bs : List ℕ) → answered_by d kept bs ≡ on d (fed kept bs)
by_fed d kept [] = refl
by_fed d kept (b ∷ bs) =
    elim (is_newline b) as (λ newline.
    (let now = cond newline (Some (command_of kept)) None in
    followed (replied d now) (answered_by (desk_after d now) (cond newline [] (kept_with kept b)) bs)) ≡
    on d (cond newline (record { said = Some (command_of kept); kept = []; left = bs }) (fed (kept_with kept b) bs))) [
      | true ↦ refl
      | false ↦ by_fed d (kept_with kept b) bs
    ]

-- the answer now, if there is one, and then those to the bytes that are left
pub by_feed : (d d' : Desk) (kept bs : List ℕ) (r : Option (Result Answer LineFault)) (kept' left : List ℕ) →
    r ≡ replied d (fed kept bs).said → d' ≡ desk_after d (fed kept bs).said → kept' ≡ (fed kept bs).kept → left ≡ (fed kept bs).left →
    answered_by d kept bs ≡ followed r (answered_by d' kept' left)
by_feed d d' kept bs r kept' left a n k l = rw (a, n, k, l) (by_fed d kept bs)

-- known bytes that grow twice
grown : (a b c : Option (List ℕ)) (xs ys : List ℕ) → Appends a b xs → Appends b c ys → Appends a c (xs ++ ys)
grown None b c xs ys p q = tt
grown (Some ws) None c xs ys p q = absurd p
grown (Some ws) (Some bs) None xs ys p q = absurd q
grown (Some ws) (Some bs) (Some cs) xs ys p q = q ∙ (ap (λ zs. zs ++ ys) p ∙ append_assoc ws xs ys)

-- from these known bytes on some are written; what is held back and the rest are all that is still to be written
pub record SoFar (from to : Option (List ℕ)) (all held rest : List ℕ) : Type 0 where
  pub written : List ℕ
  pub appends : Appends from to written
  pub whole : all ≡ written ++ (held ++ rest)

module _ (from to : Option (List ℕ)) (all held rest : List ℕ) where
  pub held_more : (t held' rest' : List ℕ) → SoFar from to all held rest → held' ≡ held ++ t → rest ≡ t ++ rest' → SoFar from to all held' rest'
  held_more t held' rest' s h r = record {
    written = s.written;
    appends = s.appends;
    whole = s.whole ∙ ap (λ xs. s.written ++ xs) (ap (λ xs. held ++ xs) r ∙ (sym (append_assoc held t rest') ∙ ap (λ xs. xs ++ rest') (sym h)));
  }

  pub written_out : (to' : Option (List ℕ)) (held' : List ℕ) → SoFar from to all held rest → Appends to to' held → held' ≡ [] → SoFar from to' all held' rest
  written_out to' held' s w none = record {
    written = s.written ++ held;
    appends = grown from to to' s.written held s.appends w;
    whole = s.whole ∙ (sym (append_assoc s.written held rest) ∙ ap (λ xs. (s.written ++ held) ++ (xs ++ rest)) (sym none));
  }

pub starts : (from : Option (List ℕ)) (held rest : List ℕ) → SoFar from from (held ++ rest) held rest
starts None held rest = record { written = []; appends = tt; whole = refl }
starts (Some xs) held rest = record { written = []; appends = sym (append-nil xs); whole = refl }

-- an answer is held back, whose line is taken off the bytes that are left
pub held_answer : (from to to' : Option (List ℕ)) (all held held' : List ℕ) (before taken after : Conversation) (bs left : List ℕ)
    (r : Option (Result Answer LineFault)) (a : Result Answer LineFault) →
    SoFar from to all held (printed (answered_by (desk_in before) before.line bs)) → r ≡ Some a → r ≡ replied (desk_in before) (fed before.line bs).said →
    desk_in taken ≡ desk_after (desk_in before) (fed before.line bs).said → taken.line ≡ (fed before.line bs).kept → left ≡ (fed before.line bs).left →
    held' ≡ held ++ (reply_text a ++ 10 ∷ []) → to' ≡ to → after ≡ taken → SoFar from to' all held' (printed (answered_by (desk_in after) after.line left))
held_answer from to to' all held held' before taken after bs left r a s is answer next line rest text out same =
    rw (out, same) (held_more from to all held _ (reply_text a ++ 10 ∷ []) held' _ s text
    (ap printed (by_feed (desk_in before) (desk_in taken) before.line bs (Some a) taken.line left (sym is ∙ answer) next line rest)))

-- where no line ends, nothing is answered
pub no_answer : (before taken : Conversation) (bs left : List ℕ) (r : Option (Result Answer LineFault)) → r ≡ None →
    r ≡ replied (desk_in before) (fed before.line bs).said → desk_in taken ≡ desk_after (desk_in before) (fed before.line bs).said →
    taken.line ≡ (fed before.line bs).kept → left ≡ (fed before.line bs).left → left ≡ [] → printed (answered_by (desk_in before) before.line bs) ≡ []
no_answer before taken bs left r is answer next line rest none =
    ap printed (by_feed (desk_in before) (desk_in taken) before.line bs None taken.line left (sym is ∙ answer) next line rest
    ∙ ap (answered_by (desk_in taken) taken.line) none)

-- what is held back is written, and nothing is left
pub all_written : {T E : Type 0} (from to to' : Option (List ℕ)) (all held rest : List ℕ) (r : Result T E) → SoFar from to all held rest → rest ≡ [] →
    OnOk r (Appends to to' held) → OnOk r (Appends from to' all)
all_written from to to' all held rest (Ok x) s none w =
    rw (s.whole, none, append-nil) (grown from to to' s.written held s.appends w)
all_written from to to' all held rest (Err e) s none w = tt
