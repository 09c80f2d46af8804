-- A row entry at most the position is exactly descent.
use Rattle.std.proofs.Common.{◌≡◌, ℕ, ◌+◌, ◌*◌, ◌<◌, ◌≤◌, List, get_or, refl, ⊎_elim, arith}
use Rattle.descent.specs.declared.link.Link.{Link}
use Rattle.descent.specs.Computed.{descends}
use Rattle.descent.specs.Links.{Descends}
use Rattle.descent.proofs.Closures.{decides_descends}
use Rattle.descent.proofs.Descents.{descends_trans}
use Rattle.chains.specs.Chains.{Chained}
use Rattle.chains.specs.Ranked.{Ranked}
use Rattle.rows.specs.Rows.{entry_of, rows_of, Lowest}
use Rattle.rows.specs.Meaning.{RowsStartAtTheirPlaces, RowEntriesAreLowest, RowEntriesAnswerDescent}
use Rattle.rows.proofs.Layouts.{along_chain, position_below}
use Rattle.rows.proofs.Lowests.{lowest_computed}
use Rattle.rows.proofs.RowPlaces.{all_rows_length, all_rows_at}

module _ {n : ℕ} {links : List Link} {order rank chains positions : List ℕ} {count : ℕ} (small : n ≤ 65535) (ranked : Ranked n links order rank) (chained : Chained n links chains positions count) where
  pub entry_lowest : (a c : ℕ) → Lowest n chains positions (Descends links a) c (entry_of n links chains positions a c)
  entry_lowest a c = lowest_computed chains positions (Descends links a) (descends links a) (decides_descends links a) c n (λ b h. omega (arith, position_below chained ranked b h))

  -- where R carries along descent, the lowest position on b's chain is at most b's exactly where b has R
  pub lowest_answers : (R : ℕ → Type 0) → ((x y : ℕ) → R x → Descends links x y → R y) → (b v : ℕ) → b < n → Lowest n chains positions R (get_or chains b 0) v → v ≤ get_or positions b 0 → R b
  lowest_answers R carries b v h m le =
      ⊎_elim
      (λ (e : v ≡ 65535). let none : ⊥ = omega (arith, position_below chained ranked b h) in absurd none)
      (λ (x : (x : ℕ) × (x < n) × (get_or chains x 0 ≡ get_or chains b 0) × (get_or positions x 0 ≡ v) × R x).
      carries x.0 b x.4 (along_chain chained x.0 b x.1 h x.2 (omega (arith, x.3))))
      m.hit

pub rows_start : RowsStartAtTheirPlaces
rows_start n links chains positions count = (all_rows_length n links chains positions count, all_rows_at n links chains positions count)

pub rows_lowest : RowEntriesAreLowest
rows_lowest n links order rank chains positions count small ranked chained = entry_lowest small ranked chained

pub rows_answer : RowEntriesAnswerDescent
rows_answer n links order rank chains positions count small ranked chained a b h k =
    let m = entry_lowest small ranked chained a (get_or chains b 0) in
    let at : get_or (rows_of n links chains positions count) (a * count + get_or chains b 0) 0 ≡ entry_of n links chains positions a (get_or chains b 0) =
    all_rows_at n links chains positions count a (get_or chains b 0) h (chained.below b k) in (
      λ d. let le = m.low b k refl d in omega arith,
      λ le. lowest_answers small ranked chained (Descends links a) (λ x y p q. descends_trans links a x y p q) b (entry_of n links chains positions a (get_or chains b 0)) k m (omega arith),
    )
