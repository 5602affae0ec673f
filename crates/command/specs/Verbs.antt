-- The first words of lines.
use Rattle.std.specs.Prelude.{ℕ, cond, List, Some, None, codes, Option}
use Rattle.std.specs.Str.{bytes_eq}
use Rattle.command.specs.declared.verbs.Verb.{Verb}
use Rattle.command.specs.declared.verbs.Verb.TheVariants.{Tree, Rule, Go, Send, Fire, Take, Owed}

-- the verb of a word
abbrev pub verb_named : List ℕ → Option Verb
verb_named f =
    cond (bytes_eq f (codes "tree")) (Some Tree)
    (cond (bytes_eq f (codes "rule")) (Some Rule)
    (cond (bytes_eq f (codes "go")) (Some Go)
    (cond (bytes_eq f (codes "send")) (Some Send)
    (cond (bytes_eq f (codes "fire")) (Some Fire)
    (cond (bytes_eq f (codes "take")) (Some Take)
    (cond (bytes_eq f (codes "owed")) (Some Owed)
    None))))))
