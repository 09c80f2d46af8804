-- Questions about types of a settled register.
use Rattle.std.proofs.Common.{◌≡◌, ℕ, ◌<◌, Bool, true, false, List, length, Some, None, Ok, Decides, Option, sym, refl, ap, ◌∙◌, arith}
use Rattle.descent.specs.declared.link.Link.{Link}
use Rattle.descent.specs.Answers.{Tells}
use Rattle.descent.specs.Computed.{descends}
use Rattle.descent.specs.Links.{Descends}
use Rattle.descent.proofs.Closures.{decides_descends}
use Rattle.hierarchy.specs.Indexes.{types_of}
use Rattle.names.specs.Finding.{number_in}
use Rattle.register.specs.Asking.{numbers_found, numbers_answer}
use Rattle.register.proofs.Parts.{number_bound}

pub found_by : (o p : Option ℕ) (pair : ℕ × ℕ) → numbers_found o p ≡ Ok pair → (o ≡ Some pair.0) × (p ≡ Some pair.1)
found_by (Some a) (Some b) pair e = let f : (a, b) ≡ pair = cc in (ap (λ (x : ℕ × ℕ). Some x.0) f, ap (λ (x : ℕ × ℕ). Some x.1) f)
found_by (Some a) None pair e = let z : ◌≡◌ {A = ℕ} 0 1 = cc in absurd (omega arith)
found_by None p pair e = let z : ◌≡◌ {A = ℕ} 0 1 = cc in absurd (omega arith)

-- two numbers that were found are of types, and the register is settled
pub found_below : (settled : Option ℕ) (names : List (List ℕ)) (first second : List ℕ) (pair : ℕ × ℕ) → numbers_answer settled names first second ≡ Ok pair
    → (types_of settled (length names) ≡ length names) × (pair.0 < length names) × (pair.1 < length names)
found_below (Some chains) names first second pair e =
    let f = found_by (number_in names first) (number_in names second) pair e in
    (refl, omega (arith, number_bound 0 names first pair.0 f.0), omega (arith, number_bound 0 names second pair.1 f.1))
found_below None names first second pair e = let z : ◌≡◌ {A = ℕ} 0 1 = cc in absurd (omega arith)

pub said_right : (v w : Bool) {P : Type 0} → Tells v P → Decides w P → v ≡ w
said_right true w t d = sym (d.1 t)
said_right false true t d = absurd (t (d.0 refl))
said_right false false t d = refl

-- the answer of the chain index is the computed descent
pub descent_told : (links held : List Link) (a b : ℕ) (v : Bool) → links ≡ held → Tells v (Descends links a b) → v ≡ descends held a b
descent_told links held a b v e t = said_right v (descends links a b) t (decides_descends links a b) ∙ ap (λ ls. descends ls a b) e
