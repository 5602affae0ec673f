-- An input halfway: the lines that have ended, and what is still to be said.
use Rattle.std.proofs.Common.{◌≡◌, ℕ, ◌<◌, true, false, List, [], ◌∷◌, ◌++◌, length, is_some, Some, None, Option, Result, refl, sym, ap, ◌∙◌, append-nil, rules}
use Rattle.std.proofs.lemmas.List.{append_assoc}
use Rattle.command.specs.Commands.{Command}
use Rattle.command.specs.Inputs.{fed, said_last, followed, all_said}
use Rattle.command.proofs.Feeding.{fed_on, fed_shorter, fed_all}
use Rattle.session.specs.declared.answer.Answer.{Answer}
use Rattle.session.specs.declared.fault.LineFault.{LineFault}
use Rattle.session.specs.Desks.{Desk}
use Rattle.session.specs.Conversations.{replied, desk_after, KeepsOnIf}
use Rattle.session.proofs.SoFar.{SoFar, one_more}

pub record Halfway (said : List (Option Command)) (line rest : List ℕ) (d : Desk) : Type 0 where
  pub ended : List (Option Command)
  pub far : SoFar ended d
  pub left : said ≡ ended ++ all_said line rest

-- what has been said is followed by what is, or is not, said now
module _ (said ended : List (Option Command)) (d d' : Desk) (far : SoFar ended d) (xs : List (Option Command)) where
  Onward : Type 0
  Onward = (more : List (Option Command)) × SoFar more d' × (said ≡ more ++ xs)

  onward : (now : Option (Option Command)) → said ≡ ended ++ followed now xs → d' ≡ desk_after d now → KeepsOnIf now d d' → Onward
  unfolding Onward
  onward None e s k = (ended, rw s far, e)
  onward (Some x) e s k = (ended ++ (x ∷ []), one_more ended x d d' far s k, e ∙ sym (append_assoc ended (x ∷ []) xs))

pub next_bytes : (said : List (Option Command)) (line bs line' left : List ℕ) (d d' : Desk) → Halfway said line bs d →
    line' ≡ (fed line bs).kept → left ≡ (fed line bs).left → d' ≡ desk_after d (fed line bs).said → KeepsOnIf (fed line bs).said d d' → Halfway said line' left d'
unfolding Onward
next_bytes said line bs line' left d d' h l r s k =
    let all : all_said line bs ≡ followed (fed line bs).said (all_said line' left) = simp append-nil at (fed_on line bs [] (fed line bs).said line' left refl l r) in
    let o = onward said h.ended d d' h.far (all_said line' left) (fed line bs).said (h.left ∙ ap (λ xs. h.ended ++ xs) all) s k in
    record { ended = o.0; far = o.1; left = o.2 }

pub last_line : (said : List (Option Command)) (line left : List ℕ) (d d' : Desk) → left ≡ [] → Halfway said line left d →
    d' ≡ desk_after d (said_last line) → KeepsOnIf (said_last line) d d' → SoFar said d'
unfolding Onward
last_line said line left d d' none h s k =
    let e : said ≡ h.ended ++ all_said line [] = h.left ∙ ap (λ r. h.ended ++ all_said line r) none in
    let o = onward said h.ended d d' h.far [] (said_last line) e s k in
    let f : said ≡ o.0 = o.2 ∙ search rules in rw f o.1

-- an answer takes a newline off the bytes
pub answered_shorter : (d : Desk) (line bs left : List ℕ) (r : Option (Result Answer LineFault)) → is_some r ≡ true →
    r ≡ replied d (fed line bs).said → left ≡ (fed line bs).left → length left < length bs
answered_shorter d line bs left r s e l = rw l (fed_shorter line bs (by (fed line bs).said (ap is_some (sym e) ∙ s)))
  where
    by : (now : Option (Option Command)) → is_some (replied d now) ≡ true → is_some now ≡ true
    by None x = x
    by (Some c) x = refl

-- where there is none, all of them are taken
pub unanswered_taken : (d : Desk) (line bs left : List ℕ) (r : Option (Result Answer LineFault)) → is_some r ≡ false →
    r ≡ replied d (fed line bs).said → left ≡ (fed line bs).left → left ≡ []
unanswered_taken d line bs left r s e l = l ∙ fed_all line bs (by (fed line bs).said (ap is_some (sym e) ∙ s))
  where
    by : (now : Option (Option Command)) → is_some (replied d now) ≡ false → now ≡ None
    by None x = refl
    by (Some c) x = grind rules
