-- What is printed for a line of a planning deck.
use Rattle.std.specs.Prelude.{ℕ, ◌-◌, false, List, [], ◌++◌, length, replicate, codes, decimal, Some, None, Option}
use Rattle.std.specs.Fmt.{digits}
use Rattle.std.specs.List.{flat_map}
use Rattle.refusal.specs.Refusals.{wiring_refusal, order_refusal}
use Rattle.refusal.specs.Sentences.{sentence, wiring_reason, order_reason}
use Rattle.packet.specs.Routes.{Leads, read_route, side_letter}
use Rattle.packet.specs.Heads.{head_word, mode_name}
use Rattle.packet.specs.declared.heads.Head.{Head}
use Rattle.routing.specs.declared.walks.Walk.{Walk}
use Rattle.planner.specs.declared.plans.Plan.{Plan}
use Rattle.planner.specs.declared.faults.PlanFault.{PlanFault}
use Rattle.planner.specs.declared.faults.PlanFault.TheVariants.{NotUnderstood, Wiring, Order, Memory}

-- the letters of what a route asks for: U, the byte 85, for each link up, D for the turn, L or R for each descent, S for the stop
abbrev pub course_letters : Leads → List ℕ
course_letters l = replicate l.ups 85 ++ (codes "D" ++ (flat_map side_letter l.descents ++ codes "S"))

-- the letters of a route; one that ends on the way up has none
abbrev pub letters_told : Option Leads → List ℕ
letters_told None = []
letters_told (Some l) = course_letters l

abbrev pub route_letters : ℕ → List ℕ
route_letters r = letters_told (read_route r)

-- a word in small hexadecimal digits, with zeros in front up to eight of them
abbrev pub word_text : ℕ → List ℕ
word_text w = replicate (8 - length (digits 16 false w)) 48 ++ digits 16 false w

-- a head: its word, and the letters of its route
abbrev pub head_text : Head → List ℕ
head_text h = codes "head " ++ (word_text (head_word h.mode h.route.bits) ++ (codes ", route " ++ route_letters h.route.bits))

-- a walk: where it turns and where it ends, and how many links lead there
abbrev pub walk_text : Walk → List ℕ
walk_text w = decimal w.ups ++ (codes " up to card " ++ (decimal w.turn ++ (codes ", " ++ (decimal w.descents ++ (codes " down to card " ++ decimal w.terminus)))))

-- a plan
abbrev pub plan_text : Plan → List ℕ
plan_text p = head_text p.head ++ (codes ", " ++ (walk_text p.walk ++ (codes ", " ++ (mode_name p.head.mode ++
    (codes ", cards reached " ++ (decimal p.reached ++ (codes ", hops a word " ++ decimal p.hops)))))))

-- why a line is refused: its number and its reason; want of memory has no number
abbrev pub fault_text : PlanFault → List ℕ
fault_text NotUnderstood = codes "21: the line is not understood"
fault_text (Wiring f) = sentence (wiring_refusal f) (wiring_reason f)
fault_text (Order f) = sentence (order_refusal f) (order_reason f)
fault_text Memory = codes "there is no memory for the line"
