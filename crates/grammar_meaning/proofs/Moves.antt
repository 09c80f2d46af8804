-- Where a byte leads, rule by rule, if it does not leave the reading stuck.
use Rattle.std.proofs.Common.{◌≡◌, ℕ, zero, suc, ◌+◌, ◌≤◌, Bool, true, false, cond, eqb, ◌⊎◌, sym, refl, subst, inl, inr, ⊎_elim, arith}
use Rattle.std.proofs.lemmas.Bool.{eqb-true, cond_both, both_ways}
use Rattle.grammar.specs.Bytes.{printable, begins, continues, space, hash, comma, less, opening, closing}
use Rattle.grammar.specs.Reading.{Part, first, base, Mode, fresh, in_word, closed, State, start, comment, in_name, spaced, signed, parted, stuck, after, within, step, opened, is_stuck}

-- a name may be over
pub data Whole : Mode → Type 0 where
  after_word : Whole in_word
  after_bracket : Whole closed

pub data Goes : State → ℕ → State → Type 0 where
  hashed : Goes start hash comment
  started : {b : ℕ} → begins b ≡ true → Goes start b (in_name first in_word 0)
  noted : {b : ℕ} → printable b ≡ true → Goes comment b comment
  word_begins : {p : Part} {d b : ℕ} → begins b ≡ true → Goes (in_name p fresh d) b (in_name p in_word d)
  word_goes_on : {p : Part} {d b : ℕ} → continues b ≡ true → Goes (in_name p in_word d) b (in_name p in_word d)
  opens : {p : Part} {d : ℕ} → Goes (in_name p in_word d) opening (in_name p fresh (suc d))
  argument_ends : {p : Part} {m : Mode} {d : ℕ} → Whole m → Goes (in_name p m (suc d)) comma (in_name p fresh (suc d))
  closes : {p : Part} {m : Mode} {d : ℕ} → Whole m → Goes (in_name p m (suc d)) closing (in_name p closed d)
  first_ends : {m : Mode} → Whole m → Goes (in_name first m 0) space spaced
  base_ends : {m : Mode} → Whole m → Goes (in_name base m 0) comma parted
  signs : Goes spaced less signed
  sign_ends : Goes signed space (in_name base fresh 0)
  gap_ends : Goes parted space (in_name base fresh 0)

abbrev Leads : State → ℕ → State → Type 0
Leads s b t = (t ≡ stuck) ⊎ Goes s b t

on_byte : {s t : State} (b k : ℕ) → Goes s k t → eqb b k ≡ true → Leads s b t
on_byte {s} {t} b k g e = inr (subst (λ x. Goes s x t) (sym (eqb-true b k e)) g)

lost : {s : State} {b : ℕ} {t : Bool} → t ≡ false → Leads s b stuck
lost e = inl refl

after-leads : (p : Part) (m : Mode) (d b : ℕ) → Whole m → Leads (in_name p m d) b (after p d b)
after-leads first m zero b w = cond_both (eqb b space) spaced stuck (Leads (in_name first m 0) b) (on_byte b space (first_ends w)) lost
after-leads base m zero b w = cond_both (eqb b comma) parted stuck (Leads (in_name base m 0) b) (on_byte b comma (base_ends w)) lost
after-leads p m (suc d) b w =
    let from = in_name p m (suc d) in
    cond_both (eqb b comma) (in_name p fresh (suc d)) (cond (eqb b closing) (in_name p closed d) stuck) (Leads from b) (on_byte b comma (argument_ends w))
    (λ _. cond_both (eqb b closing) (in_name p closed d) stuck (Leads from b) (on_byte b closing (closes w)) lost)

within-leads : (p : Part) (m : Mode) (d b : ℕ) → Leads (in_name p m d) b (within p m d b)
within-leads p fresh d b = cond_both (begins b) (in_name p in_word d) stuck (Leads (in_name p fresh d) b) (λ e. inr (word_begins e)) lost
within-leads p in_word d b =
    let from = in_name p in_word d in
    cond_both (continues b) (in_name p in_word d) (cond (eqb b opening) (in_name p fresh (suc d)) (after p d b)) (Leads from b) (λ e. inr (word_goes_on e))
    (λ _. cond_both (eqb b opening) (in_name p fresh (suc d)) (after p d b) (Leads from b) (on_byte b opening opens) (λ _. after-leads p in_word d b after_word))
within-leads p closed d b = after-leads p closed d b after_bracket

pub leads : (s : State) (b : ℕ) → (step s b ≡ stuck) ⊎ Goes s b (step s b)
leads start b =
    cond_both (eqb b hash) comment (within first fresh 0 b) (Leads start b) (on_byte b hash hashed)
    (λ _. cond_both (begins b) (in_name first in_word 0) stuck (Leads start b) (λ e. inr (started e)) lost)
leads comment b = cond_both (printable b) comment stuck (Leads comment b) (λ e. inr (noted e)) lost
leads (in_name p m d) b = within-leads p m d b
leads spaced b = cond_both (eqb b less) signed stuck (Leads spaced b) (on_byte b less signs) lost
leads signed b = cond_both (eqb b space) (in_name base fresh 0) stuck (Leads signed b) (on_byte b space sign_ends) lost
leads parted b = cond_both (eqb b space) (in_name base fresh 0) stuck (Leads parted b) (on_byte b space gap_ends) lost
leads stuck b = inl refl

-- a byte that leaves the reading unstuck
pub goes : (s : State) (b : ℕ) → is_stuck (step s b) ≡ false → Goes s b (step s b)
goes s b n = ⊎_elim (λ e. absurd (both_ways true (subst (λ t. is_stuck t ≡ false) e n) refl)) (λ g. g) (leads s b)

-- at most one bracket more is open after a byte
pub opened-on : {s t : State} {b : ℕ} → Goes s b t → opened t ≤ opened s + 1
opened-on hashed = omega arith
opened-on (started e) = omega arith
opened-on (noted e) = omega arith
opened-on (word_begins e) = omega arith
opened-on (word_goes_on e) = omega arith
opened-on opens = omega arith
opened-on (argument_ends w) = omega arith
opened-on (closes w) = omega arith
opened-on (first_ends w) = omega arith
opened-on (base_ends w) = omega arith
opened-on signs = omega arith
opened-on sign_ends = omega arith
opened-on gap_ends = omega arith
