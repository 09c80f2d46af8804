-- The steps of a trim: one base of a type, and one flag.
use Rattle.std.proofs.Common.{◌≡◌, ℕ, ◌+◌, ◌<◌, ◌≤◌, ◌≢◌, List, length, get_or, take, drop, set, Some, None, Option, sym, refl, ap, ◌∙◌, subst, inl, inr, arith, below_more}
use Rattle.std.proofs.lemmas.List.{get_or-set_same, get_or-set_other, get_or-take, length-take-le, drop-set-lt, drop-drop, ext_get_or}
use Rattle.std.proofs.lemmas.Bool.Decides.{nat_tests}
use Rattle.descent.specs.declared.link.Link.{Link}
use Rattle.descent.specs.Answers.{Same, Agree, Keeps}
use Rattle.descent.specs.Links.{no_link, Within}
use Rattle.descent.specs.Trims.{Implied, Flag, Flagged, stray_link_refusal, trim_refusal}
use Rattle.descent.specs.Refusals.{stray_end}
use Rattle.descent.specs.declared.refusal.Refusal.{Refusal}
use Rattle.descent.proofs.Strays.{within_from_no_stray}

pub same_trans : (R S U : ℕ → ℕ → Type 0) → Same R S → Same S U → Same R U
same_trans R S U p q a b = ((λ h. (q a b).0 ((p a b).0 h)), (λ h. (p a b).1 ((q a b).1 h)))

pub keeps_trans : {S : Type 0} (count : S → ℕ) (relates : S → ℕ → ℕ → Type 0) (s t u : S) → Keeps count relates s t → Keeps count relates t u → Keeps count relates s u
keeps_trans count relates s t u p q = record {
  same_count = q.same_count ∙ p.same_count;
  same_relation = same_trans (relates u) (relates t) (relates s) q.same_relation p.same_relation;
}

-- none of the first i links leads to another base of the link's type that is related to its end
abbrev pub Unimplied : List Link → (ℕ → ℕ → Type 0) → Link → ℕ → Type 0
Unimplied links R link i =
    (k : ℕ) → k < i → (get_or links k no_link).from ≡ link.from → ((get_or links k no_link).to ≡ link.to → ⊥) → R (get_or links k no_link).to link.to → ⊥

module _ (links : List Link) (R : ℕ → ℕ → Type 0) (flags : List ℕ) (i v : ℕ) (room : i < length flags) where
  pub flagged_more : Flagged links R i flags → Flag v (Implied links R (get_or links i no_link)) → Flagged links R (i + 1) (set flags i v)
  flagged_more old here =
      below_more (λ k. Flag (get_or (set flags i v) k 0) (Implied links R (get_or links k no_link))) i
      (λ k l. let ne : k ≢ i = omega arith in
      subst (λ (f : ℕ). Flag f (Implied links R (get_or links k no_link))) (sym (get_or-set_other flags i k v 0 ne)) (old k l))
      (subst (λ (f : ℕ). Flag f (Implied links R (get_or links i no_link))) (sym (get_or-set_same flags i v 0 room)) here)

  pub rest_more : (start : List ℕ) → drop i flags ≡ drop i start → drop (i + 1) (set flags i v) ≡ drop (i + 1) start
  rest_more start e = drop-set-lt (i + 1) flags i v (omega arith) ∙ sym (drop-drop 1 i flags) ∙ ap (λ (x : List ℕ). drop 1 x) e ∙ drop-drop 1 i start

pub unheld_of_flag : {P : Type 0} (v : ℕ) → v ≡ 1 → Flag v P → P → ⊥
unheld_of_flag v e (inl (z, _)) = let none : ⊥ = omega arith in absurd none
unheld_of_flag v e (inr (_, none)) = none

pub flag_of_unheld : {P : Type 0} (v : ℕ) → (P → ⊥) → Flag v P → v ≡ 1
flag_of_unheld v none (inl (_, p)) = absurd (none p)
flag_of_unheld v none (inr (e, _)) = e

pub implied_like : (links : List Link) (R S : ℕ → ℕ → Type 0) (link : Link) → ((a b : ℕ) → R a b → S a b) → Implied links R link → Implied links S link
implied_like links R S link to (w, l, other, r) = (w, l, other, to w link.to r)

pub flag_like : (links : List Link) (R S : ℕ → ℕ → Type 0) (link : Link) (v : ℕ) → Same R S → Flag v (Implied links R link) → Flag v (Implied links S link)
flag_like links R S link v same (inl (e, h)) = inl (e, implied_like links R S link (λ a b. (same a b).0) h)
flag_like links R S link v same (inr (e, h)) = inr (e, λ i. h (implied_like links S R link (λ a b. (same a b).1) i))

-- a trim that is not refused has its links within, and a flag place for each
module _ (n : ℕ) (links : List Link) (places : ℕ) (fits : trim_refusal n links places ≡ None) where
  apart : (stray : Option ℕ) (next : Option Refusal) → stray_link_refusal n stray next ≡ None → (stray ≡ None) × (next ≡ None)
  apart None next e = (refl, e)
  apart (Some x) next e = let z : ◌≡◌ {A = ℕ} 0 1 = cc in let no : ⊥ = omega arith in absurd no

  pub trim_within : Within links n
  trim_within = within_from_no_stray n links (apart (stray_end n links) _ fits).0

  pub trim_room : length links ≤ places
  trim_room = let room = (apart (stray_end n links) _ fits).1 in grind (arith, nat_tests)

-- ---- the flags are determined by the relation
flag_one : {P Q : Type 0} (f g : ℕ) → (P → Q) → (Q → P) → Flag f P → Flag g Q → f ≡ g
flag_one f g to from (inl (e, p)) (inl (h, q)) = e ∙ sym h
flag_one f g to from (inr (e, p)) (inr (h, q)) = e ∙ sym h
flag_one f g to from (inl (e, p)) (inr (h, q)) = absurd (q (to p))
flag_one f g to from (inr (e, p)) (inl (h, q)) = absurd (p (from q))

module _ (links : List Link) (n : ℕ) (within : Within links n) where
  implied_within : (R S : ℕ → ℕ → Type 0) → ((a b : ℕ) → a < n → b < n → R a b → S a b) → (k : ℕ) → k < length links → Implied links R (get_or links k no_link) → Implied links S (get_or links k no_link)
  implied_within R S to k h (w, l, other, r) =
      (w, l, other, to w (get_or links k no_link).to (subst (λ (x : ℕ). x < n) l.3 (within l.0 l.1).1) (within k h).1 r)

  pub same_flags : (R S : ℕ → ℕ → Type 0) → Agree n R S → (f g : List ℕ) → length links ≤ length f → length links ≤ length g → Flagged links R (length links) f → Flagged links S (length links) g
      → take (length links) f ≡ take (length links) g
  same_flags R S agree f g long wide p q =
      let m = length links in
      let size : length (take m f) ≡ m = length-take-le m f long in
      ext_get_or 0 (take m f) (take m g) (size ∙ sym (length-take-le m g wide))
      (λ i h. let below : i < m = omega arith in
      get_or-take m f i 0 below
      ∙ flag_one (get_or f i 0) (get_or g i 0) (implied_within R S (λ a b x y. (agree a b x y).0) i below) (implied_within S R (λ a b x y. (agree a b x y).1) i below) (p i below) (q i below)
      ∙ sym (get_or-take m g i 0 below))
