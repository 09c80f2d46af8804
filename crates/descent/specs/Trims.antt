-- Trimming: the flag of each link, from a relation alone.
use Rattle.std.specs.Prelude.{◌≡◌, ℕ, ◌<◌, cond, ◌⊎◌, List, length, take, drop, Some, None, Ok, Err, count_by, Option, Result, ◌≢◌, nat_eq, nat_lt, slice_index, slice_index_or}
use Rattle.descent.specs.declared.link.Link.{Link}
use Rattle.descent.specs.declared.refusal.Refusal.{Refusal}
use Rattle.descent.specs.declared.refusal.Refusal.TheVariants.{NotBelow, ShortFlags}
use Rattle.descent.specs.Links.{no_link, Linked}
use Rattle.descent.specs.Refusals.{stray_end}

-- some other base of the link's type is related to the link's end
abbrev pub Implied : List Link → (ℕ → ℕ → Type 0) → Link → Type 0
Implied links R link = (w : ℕ) × Linked links link.from w × (w ≢ link.to) × R w link.to

-- the other link leads to another base of the type where `link` starts, and is none of the earlier ones
abbrev pub Rival : List Link → Link → Link → Type 0
Rival earlier other link = (other.from ≡ link.from) × (other.to ≢ link.to) × (Linked earlier other.from other.to → ⊥)

-- 0 where P holds, 1 where it does not
abbrev pub Flag : ℕ → Type 0 → Type 0
Flag flag P = ((flag ≡ 0) × P) ⊎ ((flag ≡ 1) × (P → ⊥))

-- the first i flags are those of the first i links
abbrev pub Flagged : List Link → (ℕ → ℕ → Type 0) → ℕ → List ℕ → Type 0
Flagged links R i flags = (k : ℕ) → k < i → Flag (slice_index flags k) (Implied links R (slice_index_or links k no_link))

abbrev pub ones : List ℕ → ℕ
ones flags = count_by (λ flag. nat_eq flag 1) flags

abbrev pub stray_link_refusal : ℕ → Option ℕ → Option Refusal → Option Refusal
stray_link_refusal n (Some stray) next = Some (NotBelow stray n)
stray_link_refusal n None next = next

-- the refusal of a trim of these links of n types with that many flag places: the first stray end, then too few places
abbrev pub trim_refusal : ℕ → List Link → ℕ → Option Refusal
trim_refusal n links places = stray_link_refusal n (stray_end n links) (cond (nat_lt places (length links)) (Some (ShortFlags places (length links))) None)

-- what a trim answers, and what the flag places hold then: the flags of the links with the rest as it was, or on a refusal what they held before
abbrev pub Trimmed : List Link → ℕ → (ℕ → ℕ → Type 0) → List ℕ → List ℕ → Result ℕ Refusal → Type 0
Trimmed links n R before after (Ok kept) =
    (trim_refusal n links (length before) ≡ None)
    × (length after ≡ length before)
    × Flagged links R (length links) after
    × (drop (length links) after ≡ drop (length links) before)
    × (kept ≡ ones (take (length links) after))
Trimmed links n R before after (Err refusal) = (trim_refusal n links (length before) ≡ Some refusal) × (after ≡ before)
