-- A session so far, and one command more.
use Rattle.std.proofs.Common.{◌≡◌, ℕ, ◌+◌, ◌<◌, List, [], ◌∷◌, ◌++◌, Option, length, map, take, slice_index_or, refl, sym, ◌∙◌, ap, rules}
use Rattle.std.proofs.lemmas.List.{map_more}
use Rattle.network.specs.Runs.{Call}
use Rattle.command.specs.Commands.{Command}
use Rattle.session.specs.Desks.{Desk, waiting, ruling, running, heard}
use Rattle.session.specs.Sessions.{CameBy, StandsBy, KeepsOn, call_made, after, calls_made}

-- these lines have led to what the console is
pub record SoFar (session : List (Option Command)) (d : Desk) : Type 0 where
  pub next : d ≡ after waiting session
  pub laws : StandsBy (calls_made waiting session) d

pub starts : (d : Desk) → d ≡ waiting → SoFar [] d
starts d e = rw e (record { next = refl; laws = refl })

after_one : (d : Desk) (session : List (Option Command)) (k : Option Command) → after d (session ++ (k ∷ [])) ≡ (heard (after d session) k).next
after_one d [] k = refl
after_one d (said ∷ session) k = after_one (heard d said).next session k

calls_one : (d : Desk) (session : List (Option Command)) (k : Option Command) → calls_made d (session ++ (k ∷ [])) ≡ calls_made d session ++ call_made (after d session) k
calls_one d [] k = search rules
calls_one d (said ∷ session) k = rw (calls_one (heard d said).next session k) (search rules)

came : (calls : List Call) (d : Desk) → StandsBy calls d → CameBy calls d
came calls waiting e = e
came calls (ruling s rules) e = e
came calls (running m) stands = stands.led

pub one_more : (session : List (Option Command)) (k : Option Command) (d d' : Desk) → SoFar session d → d' ≡ (heard d k).next → KeepsOn k d d' →
    SoFar (session ++ (k ∷ [])) d'
one_more session k d d' far e keeps = record {
  next = e ∙ (ap (λ x. (heard x k).next) far.next ∙ sym (after_one waiting session k));
  laws = rw (calls_one waiting session k, ← far.next) (keeps _ (came _ d far.laws));
}

pub goes_on : {X : Type 0} (says : X → Option Command) (session : List X) (i : ℕ) (k : X) (d d' : Desk) → i < length session → SoFar (map says (take i session)) d →
    d' ≡ (heard d (says (slice_index_or session i k))).next → KeepsOn (says (slice_index_or session i k)) d d' → SoFar (map says (take (i + 1) session)) d'
goes_on says session i k d d' l far e keeps = rw (map_more says session i k l) (one_more _ (says (slice_index_or session i k)) d d' far e keeps)
