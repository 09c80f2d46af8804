-- The marked links of a book can be printed where all its links can.
use Rattle.std.proofs.Common.{ℕ, zero, suc, ◌<◌, ◌≤◌, Bool, true, false, cond, eqb, List, [], ◌∷◌, length, arith}
use Rattle.descent.specs.declared.link.Link.{Link}
use Rattle.descent.specs.Links.{Within}
use Rattle.rows.specs.KeptEntries.{marked}
use Rattle.printing_meaning.specs.RoundTrip.{MarkedLinksArePrintable}

within-cons : (l : Link) (links : List Link) (n : ℕ) → (l.from < n) × (l.to < n) → Within links n → Within (l ∷ links) n
within-cons l links n e w zero h = e
within-cons l links n e w (suc k) h = w k (omega arith)

-- they are some of the links
record SomeOf (some links : List Link) : Type 0 where
  within : (n : ℕ) → Within links n → Within some n
  few : length some ≤ length links

some_more : (x : Bool) (l : Link) (some links : List Link) → SomeOf some links → SomeOf (cond x (l ∷ some) some) (l ∷ links)
some_more true l some links s = record { within = λ n w. within-cons l some n (w 0 (omega arith)) (s.within n (λ k h. w (suc k) (omega arith))); few = omega (arith, s.few) }
some_more false l some links s = record { within = λ n w. s.within n (λ k h. w (suc k) (omega arith)); few = omega (arith, s.few) }

marked-some : (entries : List ℕ) (links : List Link) → SomeOf (marked entries links) links
marked-some [] links = record { within = λ n w k h. absurd (omega arith); few = omega arith }
marked-some (entry ∷ entries) [] = record { within = λ n w k h. absurd (omega arith); few = omega arith }
marked-some (entry ∷ entries) (l ∷ links) = some_more (eqb entry 1) l (marked entries links) links (marked-some entries links)

pub marked-printable : MarkedLinksArePrintable
marked-printable types links entries r p =
    let s = marked-some entries links in
    record {
      lawful = p.lawful;
      different = p.different;
      few_types = p.few_types;
      few_bytes = p.few_bytes;
      within = s.within (length types) p.within;
      few_links = (omega (arith, s.few, p.few_links.0), omega (arith, s.few, p.few_links.1));
    }
