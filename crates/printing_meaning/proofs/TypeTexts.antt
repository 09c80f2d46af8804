-- The line of a type, as it is read.
use Rattle.std.proofs.Common.{◌≡◌, ℕ, ◌+◌, List, [], ◌∷◌, ◌++◌, length, codes, sym, subst, append-nil}
use Rattle.std.specs.List.{AllByRecursion}
use Rattle.grammar.specs.Grammar.{Named, named, Bases, last_base, more_bases, under}
use Rattle.grammar.specs.Reading.{reading, lawful}
use Rattle.grammar_meaning.specs.Limits.{WithinLimits}
use Rattle.grammar_meaning.proofs.Accepted.{accepts_lawful_lines}
use Rattle.printing.specs.Printed.{parted}
use Rattle.printing_meaning.proofs.Lawful.{Good}

-- names from a column on, parted by `, `
abbrev pub columns : ℕ → List (List ℕ) → List Named
columns c [] = []
columns c (n ∷ ns) = named c n ∷ columns (c + length n + 2) ns

bases_of : (c : ℕ) (b : List ℕ) (bs : List (List ℕ)) → Good b → AllByRecursion Good bs → Bases c (b ++ parted (codes ", ") bs) (columns c (b ∷ bs))
bases_of c b [] g a = subst (λ t. Bases c t (named c b ∷ [])) (sym (append-nil b)) (last_base g.is_name)
bases_of c b (d ∷ bs) g a = more_bases g.is_name (bases_of (c + length b + 2) d bs a.0 a.1)

limits_of : (c : ℕ) (ns : List (List ℕ)) → AllByRecursion Good ns → WithinLimits (columns c ns)
limits_of c [] a = tt
limits_of c (n ∷ ns) a = (a.0.short, a.0.brackets, limits_of (c + length n + 2) ns a.1)

pub type_text_read : (name b : List ℕ) (bs : List (List ℕ)) → Good name → Good b → AllByRecursion Good bs → reading (name ++ parted (codes " < ") (b ∷ bs)) ≡ lawful (named 1 name ∷ columns (length name + 4) (b ∷ bs))
type_text_read name b bs g h a =
    (accepts_lawful_lines (name ++ parted (codes " < ") (b ∷ bs)) (named 1 name ∷ columns (length name + 4) (b ∷ bs))).1
    (under g.is_name (bases_of (length name + 4) b bs h a), (g.short, g.brackets, limits_of (length name + 4) (b ∷ bs) (h, a)))
