-- A line read byte by byte: the names that it holds, or where it goes wrong and by which rule.
use Rattle.std.specs.Prelude.{ℕ, zero, suc, ◌+◌, Bool, true, false, cond, List, [], ◌∷◌, ◌++◌, length, Some, None, Option, ◌==◌, nat_lt}
use Rattle.grammar.specs.declared.fault.Rule.{Rule}
use Rattle.grammar.specs.declared.fault.Rule.TheVariants.{Printable, Brackets, Length, Grammar}
use Rattle.grammar.specs.declared.fault.Fault.{Fault}
use Rattle.grammar.specs.Bytes.{printable, begins, continues, space, hash, comma, less, opening, closing}
use Rattle.grammar.specs.Grammar.{Named, named}

-- the first name of a line, or one after ` < `
pub data Part : Type 0 where
  first : Part
  base : Part

-- in a name: a word is to begin; a word goes on; a bracket was just closed
pub data Mode : Type 0 where
  fresh : Mode
  in_word : Mode
  closed : Mode

-- how far the grammar has come
pub data State : Type 0 where
  start : State
  comment : State
  -- in a name of that part, with so many brackets open
  in_name : Part → Mode → ℕ → State
  -- after `NAME `, after `NAME <`, and after `NAME,`
  spaced : State
  signed : State
  parted : State
  -- no continuation makes it right
  stuck : State

-- after a whole name with so many brackets open
abbrev pub after : Part → ℕ → ℕ → State
after first zero b = cond (b == space) spaced stuck
after base zero b = cond (b == comma) parted stuck
after p (suc d) b = cond (b == comma) (in_name p fresh (suc d)) (cond (b == closing) (in_name p closed d) stuck)

abbrev pub within : Part → Mode → ℕ → ℕ → State
within p fresh d b = cond (begins b) (in_name p in_word d) stuck
within p in_word d b = cond (continues b) (in_name p in_word d) (cond (b == opening) (in_name p fresh (suc d)) (after p d b))
within p closed d b = after p d b

-- where a byte leads, the limits set aside
abbrev pub step : State → ℕ → State
step start b = cond (b == hash) comment (within first fresh 0 b)
step comment b = cond (printable b) comment stuck
step (in_name p m d) b = within p m d b
step spaced b = cond (b == less) signed stuck
step signed b = cond (b == space) (in_name base fresh 0) stuck
step parted b = cond (b == space) (in_name base fresh 0) stuck
step stuck b = stuck

-- the names that are over; the column where the present one begins, and its bytes so far
pub record Memory : Type 0 where
  pub names : List Named
  pub from : ℕ
  pub kept : List ℕ

abbrev pub nothing : Memory
nothing = record { names = []; from = 1; kept = [] }

-- a name begins at a column; goes on by a byte; is over
abbrev pub begun : ℕ → Memory → Memory
begun c m = record { names = m.names; from = c; kept = [] }

abbrev pub longer : ℕ → Memory → Memory
longer b m = record { names = m.names; from = m.from; kept = m.kept ++ (b ∷ []) }

abbrev pub all_names : Memory → List Named
all_names m = m.names ++ (named m.from m.kept ∷ [])

abbrev pub ended : Memory → Memory
ended m = record { names = all_names m; from = m.from; kept = [] }

-- what is remembered once the byte b at column c has led to a state
abbrev pub remember : State → Memory → ℕ → ℕ → Memory
remember (in_name p fresh zero) m c b = begun (c + 1) m
remember (in_name p fresh (suc d)) m c b = longer b m
remember (in_name p in_word d) m c b = longer b m
remember (in_name p closed d) m c b = longer b m
remember spaced m c b = ended m
remember parted m c b = ended m
remember start m c b = m
remember comment m c b = m
remember signed m c b = m
remember stuck m c b = m

-- how many brackets are open
abbrev pub opened : State → ℕ
opened (in_name p m d) = d
opened start = 0
opened comment = 0
opened spaced = 0
opened signed = 0
opened parted = 0
opened stuck = 0

abbrev pub is_stuck : State → Bool
is_stuck stuck = true
is_stuck (in_name p m d) = false
is_stuck start = false
is_stuck comment = false
is_stuck spaced = false
is_stuck signed = false
is_stuck parted = false

-- the rule broken by a byte that the grammar does not admit, with so many brackets open
abbrev pub misplaced : ℕ → ℕ → Rule
misplaced zero b = cond (printable b) (cond (b == closing) Brackets Grammar) Printable
misplaced (suc d) b = cond (printable b) Grammar Printable

-- the rule broken by the end of a line that is not over, with so many brackets open
abbrev pub unfinished : ℕ → Rule
unfinished zero = Grammar
unfinished (suc d) = Brackets

-- the limit passed, if any: eight brackets open at once, 64 bytes of a name
abbrev pub passed : State → Memory → Option Rule
passed s m = cond (nat_lt 8 (opened s)) (Some Brackets) (cond (nat_lt 64 (length m.kept)) (Some Length) None)

-- the rule broken by the byte b that led from one state to another, if any
abbrev pub broken : State → State → Memory → ℕ → Option Rule
broken s t m b = cond (is_stuck t) (Some (misplaced (opened s) b)) (passed t m)

-- the line's names, or its fault
pub data Outcome : Type 0 where
  lawful : List Named → Outcome
  unlawful : Fault → Outcome

abbrev pub fault : Rule → ℕ → Outcome
fault rule c = unlawful (record { rule = rule; column = c })

abbrev pub unless : Option Rule → ℕ → Outcome → Outcome
unless None c more = more
unless (Some rule) c more = fault rule c

-- what a line says that ends in a state
abbrev pub over : State → Memory → ℕ → Outcome
over start m c = lawful []
over comment m c = lawful []
over (in_name p fresh d) m c = fault (unfinished d) c
over (in_name p in_word zero) m c = lawful (all_names m)
over (in_name p in_word (suc d)) m c = fault Brackets c
over (in_name p closed zero) m c = lawful (all_names m)
over (in_name p closed (suc d)) m c = fault Brackets c
over spaced m c = fault Grammar c
over signed m c = fault Grammar c
over parted m c = fault Grammar c
over stuck m c = fault Grammar c

-- from a state, with what is remembered, at a column
abbrev pub reading_from : State → Memory → ℕ → List ℕ → Outcome
reading_from s m c [] = over s m c
reading_from s m c (b ∷ bs) =
    let t = step s b in
    let n = remember t m c b in
    unless (broken s t n b) c (reading_from t n (c + 1) bs)

abbrev pub reading : List ℕ → Outcome
reading line = reading_from start nothing 1 line
