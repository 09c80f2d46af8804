-- What the program answers to an input: the declarations and their counts, or what is refused.
use Rattle.std.specs.Prelude.{ℕ, ◌+◌, cond, List, [], ◌∷◌, ◌++◌, length, Ok, Err, codes, decimal, Result, nat_lt}
use Rattle.texts.specs.declared.refusal.Refusal.{Refusal}
use Rattle.grammar.specs.Grammar.{Named}
use Rattle.grammar.specs.Reading.{Outcome, lawful, unlawful, reading}
use Rattle.texts.specs.Refusals.{report_of, placeless, refused_line}
use Rattle.texts.specs.Texts.{lines_of, checked_texts}

-- each of the names, with a separator before the first and `, ` before the others
abbrev pub shown_bases : List ℕ → List Named → List ℕ
shown_bases separator [] = []
shown_bases separator (n ∷ ns) = separator ++ (n.bytes ++ shown_bases (codes ", ") ns)

-- a declaration on a line: the name, and its bases
abbrev pub shown_names : List Named → List ℕ
shown_names [] = []
shown_names (n ∷ ns) = n.bytes ++ (shown_bases (codes " < ") ns ++ codes "\n")

-- what is written of the lines so far, with how many declarations and lines there were
pub record Tally : Type 0 where
  pub shown : List ℕ
  pub declarations : ℕ
  pub lines : ℕ

abbrev pub none : Tally
none = record { shown = []; declarations = 0; lines = 0 }

abbrev pub with_line : Tally → Outcome → Tally
with_line t (lawful []) = record { shown = t.shown; declarations = t.declarations; lines = t.lines + 1 }
with_line t (lawful (n ∷ ns)) = record { shown = t.shown ++ shown_names (n ∷ ns); declarations = t.declarations + 1; lines = t.lines + 1 }
with_line t (unlawful fault) = record { shown = t.shown; declarations = t.declarations; lines = t.lines + 1 }

abbrev pub with_lines : Tally → List (List ℕ) → Tally
with_lines t [] = t
with_lines t (l ∷ ls) = with_lines (with_line t (reading l)) ls

-- the declarations, and a last line with the counts
abbrev pub shown_tally : Tally → List ℕ
shown_tally t = t.shown ++ (codes "lawful: " ++ (decimal t.declarations ++ (codes " declarations, " ++ (decimal t.lines ++ codes " lines\n"))))

abbrev pub answered : List ℕ → Result (Unit {0}) Refusal → List ℕ
answered input (Ok u) = shown_tally (with_lines none (lines_of input))
answered input (Err refusal) = refused_line (report_of refusal)

-- the input is the own text, and there is no shipped one
abbrev pub vetted : List ℕ → List ℕ
vetted input = cond (nat_lt 8192 (length input)) (refused_line (placeless 1)) (answered input (checked_texts [] input))
