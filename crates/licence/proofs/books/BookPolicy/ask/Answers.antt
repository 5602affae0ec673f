use Rattle.std.proofs.Common.{◌≡◌, rules, tests}
use Rattle.std.proofs.lemmas.Iterator.{YieldsList-from_slice}
use Rattle.std.proofs.lemmas.Iterator.Search.{find_from_yields_List}
use Rattle.licence.specs.Books.{first_of}
use Rattle.licence.proofs.Deciding.{decided}
use Rattle.licence.proofs.books.BookPolicy.ask.Goals as goal

pub returns : goal.returns
returns g c =
    let held = c.args.self.now.rules.now in
    let found = find_from_yields_List (λ rule. g.R.Rule.covering rule c.args.card c.args.key) _ _ c.find.result c.find.ensures.ran
    (YieldsList-from_slice held cc) (λ x b q k. search (rules, tests)) in
    let e : c.map_or.result ≡ first_of g.R.Rule.covering g.R.Rule.ruling held c.args.card c.args.key = rw (← found) (search rules) in
    record { meaning = e; decided = decided _ _ _ _ held _ e }
