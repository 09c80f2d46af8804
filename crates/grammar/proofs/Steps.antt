-- One byte of a line, and what becomes of it.
use Rattle.std.proofs.Common.{◌≡◌, ℕ, suc, ◌+◌, ◌-◌, ◌<◌, ◌≤◌, true, false, cond, eqb, ltb, List, [], ◌∷◌, ◌++◌, length, get_or, take, drop, Some, None, sym, refl, ap, ◌∙◌, arith, length-drop, length-take, le-ltb, lt-ltb}
use Rattle.std.proofs.lemmas.List.{at_drop_more, take_more, get_or-drop}
use Rattle.grammar.specs.declared.fault.Rule.{Rule}
use Rattle.grammar.specs.declared.fault.Rule.TheVariants.{Brackets, Length}
use Rattle.grammar.specs.Bytes.{begins, continues, comma, opening, closing}
use Rattle.grammar.specs.Grammar.{Named}
use Rattle.grammar.specs.Reading.{State, Part, Mode, fresh, in_word, closed, in_name, stuck, Memory, longer, after, step, remember, opened, is_stuck, misplaced, passed, broken, fault, unless, reading_from}
use Rattle.grammar.specs.Posts.{onward, part, recalled}

-- a byte that is judged, and the state to which it leads
pub judged : (s : List ℕ) (i : ℕ) (a b : State) (m : Memory) → i < length s → step a (get_or s i 0) ≡ b → onward s i a m ≡ unless (broken a b (remember b m (i + 1) (get_or s i 0)) (get_or s i 0)) (i + 1) (onward s (i + 1) b (remember b m (i + 1) (get_or s i 0)))
judged s i a b m h e =
    at_drop_more (reading_from a m (i + 1)) s i 0 h
    ∙ ap (λ t. unless (broken a t (remember t m (i + 1) (get_or s i 0)) (get_or s i 0)) (i + 1) (reading_from t (remember t m (i + 1) (get_or s i 0)) (i + 1 + 1) (drop (i + 1) s))) e

pub to : (s : List ℕ) (i : ℕ) (a b : State) (m n : Memory) → i < length s → step a (get_or s i 0) ≡ b → remember b m (i + 1) (get_or s i 0) ≡ n → is_stuck b ≡ false → passed b n ≡ None → onward s i a m ≡ onward s (i + 1) b n
to s i a b m n h e r k ok =
    judged s i a b m h e
    ∙ ap (λ n. unless (broken a b n (get_or s i 0)) (i + 1) (onward s (i + 1) b n)) r
    ∙ ap (λ t. unless (cond t (Some (misplaced (opened a) (get_or s i 0))) (passed b n)) (i + 1) (onward s (i + 1) b n)) k
    ∙ ap (λ t. unless t (i + 1) (onward s (i + 1) b n)) ok

pub past_limit : (s : List ℕ) (i : ℕ) (a b : State) (m n : Memory) (rule : Rule) → i < length s → step a (get_or s i 0) ≡ b → remember b m (i + 1) (get_or s i 0) ≡ n → is_stuck b ≡ false → passed b n ≡ Some rule → onward s i a m ≡ fault rule (i + 1)
past_limit s i a b m n rule h e r k no' =
    judged s i a b m h e
    ∙ ap (λ n. unless (broken a b n (get_or s i 0)) (i + 1) (onward s (i + 1) b n)) r
    ∙ ap (λ t. unless (cond t (Some (misplaced (opened a) (get_or s i 0))) (passed b n)) (i + 1) (onward s (i + 1) b n)) k
    ∙ ap (λ t. unless t (i + 1) (onward s (i + 1) b n)) no'

-- the bytes of a name
pub part_length : (s : List ℕ) (f i : ℕ) → f ≤ i → i ≤ length s → length (part s f i) ≡ i - f
part_length s f i h k = simp (length-take, length-drop) (omega arith)

pub part_more : (s : List ℕ) (f i : ℕ) → f ≤ i → i < length s → part s f i ++ (get_or s i 0 ∷ []) ≡ part s f (i + 1)
part_more s f i h k =
    let at : f + (i - f) ≡ i = omega arith in
    let next : i - f + 1 ≡ i + 1 - f = omega arith in
    let below : i - f < length (drop f s) = simp length-drop (omega arith) in
    ap (λ b. part s f i ++ (b ∷ [])) (sym (get_or-drop f s (i - f) 0 ∙ ap (λ j. get_or s j 0) at))
    ∙ sym (take_more (drop f s) (i - f) 0 below)
    ∙ ap (λ j. take j (drop f s)) next

-- within a name that began at f
module _ (s : List ℕ) (f i : ℕ) (began : f ≤ i) (p : Part) (ns : List Named) where
  noted : i < length s → longer (get_or s i 0) (recalled s ns f i) ≡ recalled s ns f (i + 1)
  noted h = ap (λ k. record { names = ns; from = f + 1; kept = k }) (part_more s f i began h)

  fits : (m : Mode) (d : ℕ) → i < length s → d ≤ 8 → i - f < 64 → passed (in_name p m d) (recalled s ns f (i + 1)) ≡ None
  fits m d h k w =
      ap (λ t. cond t (Some Brackets) (cond (ltb 64 (length (part s f (i + 1)))) (Some Length) None)) (le-ltb 8 d k)
      ∙ ap (λ t. cond t (Some Length) None) (le-ltb 64 (length (part s f (i + 1))) (omega (arith, part_length s f (i + 1) (omega arith) (omega arith))))

  too_long : (m : Mode) (d : ℕ) → i < length s → d ≤ 8 → 64 ≤ i - f → passed (in_name p m d) (recalled s ns f (i + 1)) ≡ Some Length
  too_long m d h k w =
      ap (λ t. cond t (Some Brackets) (cond (ltb 64 (length (part s f (i + 1)))) (Some Length) None)) (le-ltb 8 d k)
      ∙ ap (λ t. cond t (Some Length) None) (lt-ltb 64 (length (part s f (i + 1))) (omega (arith, part_length s f (i + 1) (omega arith) (omega arith))))

  -- a byte that belongs to the name leads to m, with d brackets open
  abbrev Belongs : Mode → ℕ → Type 0
  Belongs m d = remember (in_name p m d) (recalled s ns f i) (i + 1) (get_or s i 0) ≡ longer (get_or s i 0) (recalled s ns f i)

  pub goes_on : (a : State) (m : Mode) (d : ℕ) → Belongs m d → i < length s → step a (get_or s i 0) ≡ in_name p m d → d ≤ 8 → i - f < 64 → onward s i a (recalled s ns f i) ≡ onward s (i + 1) (in_name p m d) (recalled s ns f (i + 1))
  goes_on a m d r h e k w = to s i a (in_name p m d) (recalled s ns f i) (recalled s ns f (i + 1)) h e (r ∙ noted h) refl (fits m d h k w)

  pub grows_long : (a : State) (m : Mode) (d : ℕ) → Belongs m d → i < length s → step a (get_or s i 0) ≡ in_name p m d → d ≤ 8 → 64 ≤ i - f → onward s i a (recalled s ns f i) ≡ fault Length (i + 1)
  grows_long a m d r h e k w = past_limit s i a (in_name p m d) (recalled s ns f i) (recalled s ns f (i + 1)) Length h e (r ∙ noted h) refl (too_long m d h k w)

-- a word
module _ (s : List ℕ) (i : ℕ) (p : Part) (d : ℕ) where
  pub word_begins : begins (get_or s i 0) ≡ true → step (in_name p fresh d) (get_or s i 0) ≡ in_name p in_word d
  word_begins e = ap (λ t. cond t (in_name p in_word d) stuck) e

  pub word_continues : continues (get_or s i 0) ≡ true → step (in_name p in_word d) (get_or s i 0) ≡ in_name p in_word d
  word_continues e = ap (λ t. cond t (in_name p in_word d) (cond (eqb (get_or s i 0) opening) (in_name p fresh (suc d)) (after p d (get_or s i 0)))) e

  pub bracket_opens : get_or s i 0 ≡ opening → step (in_name p in_word d) (get_or s i 0) ≡ in_name p fresh (suc d)
  bracket_opens e = ap (step (in_name p in_word d)) e

-- below a bracket, after a name
module _ (s : List ℕ) (i : ℕ) (p : Part) (d : ℕ) where
  pub comma_parts : get_or s i 0 ≡ comma → step (in_name p closed (suc d)) (get_or s i 0) ≡ in_name p fresh (suc d)
  comma_parts e = ap (step (in_name p closed (suc d))) e

  pub bracket_closes : get_or s i 0 ≡ closing → step (in_name p closed (suc d)) (get_or s i 0) ≡ in_name p closed d
  bracket_closes e = ap (step (in_name p closed (suc d))) e
