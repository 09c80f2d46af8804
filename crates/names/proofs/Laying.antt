-- Names laid one after another: their bytes, their spans, and reading them back.
use Rattle.std.proofs.Common.{◌≡◌, ℕ, zero, suc, ◌+◌, ◌-◌, ◌<◌, ◌≤◌, List, [], ◌∷◌, ◌++◌, map, length, get_or, take, drop, replicate, sym, refl, ap, ◌∙◌, subst, ap₂, append_assoc, add-zero, arith}
use Rattle.std.proofs.lemmas.List.{length-append, length-map, length-take-le, get_or-map, get_or-take, take_at, drop_at}
use Rattle.names.specs.declared.span.Span.{Span}
use Rattle.names.specs.Limits.{most_types, most_bytes}
use Rattle.names.specs.Tables.{span, bytes_of, spans_from, pool_of, spans_of, part, names_at, Different}

pub bytes_of-append : (names more : List (List ℕ)) → bytes_of (names ++ more) ≡ bytes_of names ++ bytes_of more
bytes_of-append [] more = refl
bytes_of-append (name ∷ names) more = ap (λ l. name ++ l) (bytes_of-append names more) ∙ sym (append_assoc name (bytes_of names) (bytes_of more))

pub spans_from-append : (start : ℕ) (names more : List (List ℕ)) → spans_from start (names ++ more) ≡ spans_from start names ++ spans_from (start + length (bytes_of names)) more
spans_from-append start [] more = ap (λ k. spans_from k more) (sym (add-zero start))
spans_from-append start (name ∷ names) more =
    let n : start + length name + length (bytes_of names) ≡ start + length (name ++ bytes_of names) = omega (arith, length-append name (bytes_of names)) in
    ap (λ l. span start (length name) ∷ l) (spans_from-append (start + length name) names more ∙ ap (λ k. spans_from (start + length name) names ++ spans_from k more) n)

pub length-spans_from : (start : ℕ) (names : List (List ℕ)) → length (spans_from start names) ≡ length names
length-spans_from start [] = refl
length-spans_from start (name ∷ names) = ap suc (length-spans_from (start + length name) names)

-- names that lie behind `before` are the parts that their spans mark
parts_behind : (before rest : List ℕ) (names : List (List ℕ)) → map (part (before ++ (bytes_of names ++ rest))) (spans_from (length before) names) ≡ names
parts_behind before rest [] = refl
parts_behind before rest (name ∷ names) =
    let pool = before ++ ((name ++ bytes_of names) ++ rest) in
    let tail = bytes_of names ++ rest in
    let split : pool ≡ before ++ (name ++ tail) = ap (λ l. before ++ l) (append_assoc name (bytes_of names) rest) in
    let shift : pool ≡ (before ++ name) ++ tail = split ∙ sym (append_assoc before name tail) in
    ap₂
    (λ (x : List ℕ) (xs : List (List ℕ)). x ∷ xs)
    (ap (λ p. take (length name) (drop (length before) p)) split ∙ ap (take (length name)) (drop_at before (name ++ tail) (length before) refl) ∙ take_at name tail (length name) refl)
    (ap₂ (λ (p : List ℕ) (k : ℕ). map (part p) (spans_from k names)) shift (sym (length-append before name)) ∙ parts_behind (before ++ name) rest names)

-- the tables of a list of names mark these names
pub named : (pool : List ℕ) (spans : List Span) (size places count : ℕ) (names : List (List ℕ)) → pool ≡ pool_of names size → spans ≡ spans_of names places → count ≡ length names → names_at pool spans count ≡ names
named pool spans size places count names p s c =
    let marks = spans_from 0 names in
    let rest = replicate (places - length marks) (span 0 0) in
    let front : take count spans ≡ marks = ap (take count) s ∙ take_at marks rest count (length-spans_from 0 names ∙ sym c) in
    ap₂ (λ (q : List ℕ) (l : List Span). map (part q) l) p front ∙ parts_behind [] (replicate (size - length (bytes_of names)) 0) names

-- a name ends within the bytes of all
pub span_end : (start : ℕ) (names : List (List ℕ)) (i : ℕ) (d : Span) → i < length names → (get_or (spans_from start names) i d).start + (get_or (spans_from start names) i d).length ≤ start + length (bytes_of names)
span_end start [] i d h = absurd (omega arith)
span_end start (name ∷ names) zero d h = omega (arith, length-append name (bytes_of names))
span_end start (name ∷ names) (suc i) d h =
    omega (arith, length-append name (bytes_of names), span_end (start + length name) names i d (omega arith))

-- a name starts where the bytes of those before it end
pub span_start : (start : ℕ) (names : List (List ℕ)) (i : ℕ) (d : Span) → i < length names → (get_or (spans_from start names) i d).start ≡ start + length (bytes_of (take i names))
span_start start [] i d h = absurd (omega arith)
span_start start (name ∷ names) zero d h = sym (add-zero start)
span_start start (name ∷ names) (suc i) d h =
    omega (arith, length-append name (bytes_of (take i names)), span_start (start + length name) names i d (omega arith))

pub length-names_at : (pool : List ℕ) (spans : List Span) (count : ℕ) → count ≤ length spans → length (names_at pool spans count) ≡ count
length-names_at pool spans count h = length-map (take count spans) (part pool) ∙ length-take-le count spans h

pub get_or-names_at : (pool : List ℕ) (spans : List Span) (count i : ℕ) (d : Span) → count ≤ length spans → i < count → get_or (names_at pool spans count) i [] ≡ part pool (get_or spans i d)
get_or-names_at pool spans count i d h k =
    let l = length-take-le count spans h in
    get_or-map (part pool) (take count spans) i d [] (omega arith) ∙ ap (part pool) (get_or-take count spans i d k)

-- tables that hold exactly these names, which are different and within the limits
pub record Laid (pool : List ℕ) (spans : List Span) (size places count used : ℕ) (names : List (List ℕ)) : Type 0 where
  pub pool_is : pool ≡ pool_of names size
  pub spans_is : spans ≡ spans_of names places
  pub count_is : count ≡ length names
  pub used_is : used ≡ length (bytes_of names)
  pub in_table : count ≤ places
  pub few_types : count ≤ most_types
  pub in_pool : used ≤ size
  pub few_bytes : used ≤ most_bytes
  pub different : Different names

module _ (pool : List ℕ) (spans : List Span) (size places count used : ℕ) (names : List (List ℕ)) (l : Laid pool spans size places count used names) where
  pub laid_names : names_at pool spans count ≡ names
  laid_names = named pool spans size places count names l.pool_is l.spans_is l.count_is

  abbrev kept : List (List ℕ) → Type 0
  kept ns = (used ≡ length (bytes_of ns)) × (pool ≡ pool_of ns size) × (spans ≡ spans_of ns places) × Different ns

  -- what a value of `Names` keeps of the names that its tables hold
  pub laid_kept : kept (names_at pool spans count)
  laid_kept = subst kept (sym laid_names) (l.used_is, l.pool_is, l.spans_is, l.different)
