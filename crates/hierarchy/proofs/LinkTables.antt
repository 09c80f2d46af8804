-- Tables of links: one link more, and fewer links.
use Rattle.std.proofs.Common.{◌≡◌, ℕ, ◌+◌, ◌-◌, ◌<◌, ◌≤◌, false, ◌≢◌, ◌⊎◌, List, [], ◌∷◌, ◌++◌, length, get_or, take, drop, set, replicate, None, sym, ap, ◌∙◌, subst, inl, inr, ⊎_elim, arith, get_or-set_other}
use borrow.Author.Tests.{both_ways}
use Rattle.std.proofs.lemmas.List.{take_more_set, take_at, get_or-take, get_or_past, get_or-replicate, get_or-append_right, length-replicate, length-take-le, length_push, get_or_append_left, get_or_push}
use Rattle.std.proofs.str.Laws.{order}
use Rattle.descent.specs.declared.link.Link.{Link}
use Rattle.descent.specs.Links.{no_link, link, Within}
use Rattle.descent.specs.Refusals.{stray_end}
use Rattle.descent.proofs.Strays.{within_from_no_stray}
use Rattle.rows.specs.KeptEntries.{Different}
use Rattle.hierarchy.specs.Tables.{Distinct, ZeroFrom}
use Rattle.hierarchy.specs.Entering.{has_link, cleared}
use Rattle.hierarchy.proofs.Known.{has_hit, has_skips}

-- the front of a table, as a slice of it shows it
pub front_of : {X : Type 0} (xs ys : List X) (n : ℕ) → xs ≡ ys → take (n - 0) xs ≡ take n ys
front_of xs ys n e = let z : n - 0 ≡ n = omega arith in ap (λ m. take m xs) z ∙ ap (take n) e

-- a link that is not in the list is at none of its places
pub not_there : (ls : List Link) (a b i : ℕ) → has_link ls a b ≡ false → i < length ls → (get_or ls i no_link).from ≡ a → (get_or ls i no_link).to ≡ b → ⊥
not_there ls a b i e h p q = both_ways (has_link ls a b) e (has_skips ls a b i (has_hit ls i a b h p q))

start : {l k : Link} → l ≡ k → l.from ≡ k.from
start e = ap (λ (l : Link). l.from) e

end : {l k : Link} → l ≡ k → l.to ≡ k.to
end e = ap (λ (l : Link). l.to) e

same_link : (l k : Link) → l.from ≡ k.from → l.to ≡ k.to → l ≡ k
same_link l k p q = ap (λ a. link a l.to) p ∙ ap (λ b. link k.from b) q

-- links at different places differ in one of their ends
pub different_ends : (ls : List Link) → Distinct ls → Different ls
different_ends ls d i j h k p q = d i j h k (same_link (get_or ls i no_link) (get_or ls j no_link) p q)

module _ (ls : List Link) (y : Link) where
  -- what stands at a place of a list with one link more
  at_push : (k : ℕ) → k < length (ls ++ (y ∷ [])) → ((k < length ls) × (get_or (ls ++ (y ∷ [])) k no_link ≡ get_or ls k no_link)) ⊎ ((k ≡ length ls) × (get_or (ls ++ (y ∷ [])) k no_link ≡ y))
  at_push k h =
      let len = length_push ls y in
      ⊎_elim
      (λ z. inl (z, get_or_append_left ls (y ∷ []) no_link k z))
      (λ z. let e : k ≡ length ls = omega arith in inr (e, get_or_push ls y no_link k (sym e)))
      (order k (length ls))

  pub within_push : (n : ℕ) → Within ls n → y.from < n → y.to < n → Within (ls ++ (y ∷ [])) n
  within_push n w p q k h =
      ⊎_elim
      (λ z. let e = z.1 in (subst (λ (l : Link). l.from < n) (sym e) (w k z.0).0, subst (λ (l : Link). l.to < n) (sym e) (w k z.0).1))
      (λ z. let e = z.1 in (subst (λ (l : Link). l.from < n) (sym e) p, subst (λ (l : Link). l.to < n) (sym e) q))
      (at_push k h)

  pub distinct_push : Distinct ls → ((i : ℕ) → i < length ls → get_or ls i no_link ≡ y → ⊥) → Distinct (ls ++ (y ∷ []))
  distinct_push d new i j h k e =
      let len = length_push ls y in
      let i-below : i < length ls = omega arith in
      let at_i = get_or_append_left ls (y ∷ []) no_link i i-below in
      ⊎_elim
      (λ z. d i j h z.0 (sym at_i ∙ e ∙ z.1))
      (λ z. new i i-below (sym at_i ∙ e ∙ z.1))
      (at_push j k)

-- a link that is entered at the first free place
module _ (xs : List Link) (n types a b : ℕ) (room : n < length xs) where
  pushed : take (n + 1) (set xs n (link a b)) ≡ take n xs ++ (link a b ∷ [])
  pushed = take_more_set xs n (link a b) room

  pub within_entered : Within (take n xs) types → a < types → b < types → Within (take (n + 1) (set xs n (link a b))) types
  within_entered w p q = subst (λ ls. Within ls types) (sym pushed) (within_push (take n xs) (link a b) types w p q)

  pub distinct_entered : Distinct (take n xs) → has_link (take n xs) a b ≡ false → Distinct (take (n + 1) (set xs n (link a b)))
  distinct_entered d e = subst Distinct (sym pushed) (distinct_push (take n xs) (link a b) d (λ i h q. not_there (take n xs) a b i e h (start q) (end q)))

  pub zero_entered : ZeroFrom n xs → ZeroFrom (n + 1) (set xs n (link a b))
  zero_entered z i h = let ne : i ≢ n = omega arith in get_or-set_other xs n i (link a b) no_link ne ∙ z i (omega arith)

pub zero_everywhere : (m i : ℕ) → get_or (replicate m no_link) i no_link ≡ no_link
zero_everywhere m i =
    ⊎_elim
    (λ h. get_or-replicate m i no_link no_link h)
    (λ h. get_or_past (replicate m no_link) i no_link (simp length-replicate h))
    (order i m)

-- a table from a place on set to 0
module _ (xs : List Link) (k : ℕ) (within : k ≤ length xs) where
  pub cleared_front : take k (cleared k xs) ≡ take k xs
  cleared_front = take_at (take k xs) (replicate (length xs - k) no_link) k (length-take-le k xs within)

  pub cleared_zero : ZeroFrom k (cleared k xs)
  cleared_zero i h = get_or-append_right (take k xs) (replicate (length xs - k) no_link) k i no_link (length-take-le k xs within) h ∙ zero_everywhere (length xs - k) (i - k)

  pub distinct_front : (n : ℕ) → k ≤ n → n ≤ length xs → Distinct (take n xs) → Distinct (take k xs)
  distinct_front n h m d i j p q e =
      let len : length (take k xs) ≡ k = length-take-le k xs within in
      let len-n : length (take n xs) ≡ n = length-take-le n xs m in
      let at : (x : ℕ) → x < k → get_or (take n xs) x no_link ≡ get_or (take k xs) x no_link = λ x y. get_or-take n xs x no_link (omega arith) ∙ sym (get_or-take k xs x no_link y) in
      let at_i = at i (omega arith) in
      let at_j = at j (omega arith) in
      d i j p (omega arith) (at_i ∙ e ∙ sym at_j)

-- a table of which only the first links are left
module _ (ys xs : List Link) (k : ℕ) (within : k ≤ length xs) (e : ys ≡ cleared k xs) where
  front : take k ys ≡ take k xs
  front = ap (take k) e ∙ cleared_front xs k within

  pub within_left : (types : ℕ) → stray_end types (take k xs) ≡ None → Within (take k ys) types
  within_left types none = subst (λ (ls : List Link). Within ls types) (sym front) (within_from_no_stray types (take k xs) none)

  pub distinct_left : (n : ℕ) → k ≤ n → n ≤ length xs → Distinct (take n xs) → Distinct (take k ys)
  distinct_left n h m d = subst Distinct (sym front) (distinct_front xs k within n h m d)

  pub zero_left : ZeroFrom k ys
  zero_left = subst (ZeroFrom k) (sym e) (cleared_zero xs k within)

-- what a table holds after a slice of all of it was written
pub refilled_is : {X : Type 0} (xs ws s0 : List X) (n : ℕ) → length ws ≡ length s0 → length s0 ≡ n → take n (ws ++ drop (length ws) xs) ≡ ws
refilled_is xs ws s0 n e h = take_at ws (drop (length ws) xs) n (e ∙ h)
