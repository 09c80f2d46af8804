-- The kept entries are the flags of a trim by descent.
use Rattle.std.proofs.Common.{◌≡◌, ℕ, ◌<◌, ◌≤◌, List, length, get_or, take, Ok, sym, refl, ap, ◌∙◌, subst, inl, inr, ⊎_elim, arith}
use Rattle.std.proofs.lemmas.List.{length-map, get_or-map, take_all}
use Rattle.descent.specs.declared.link.Link.{Link}
use Rattle.descent.specs.Answers.{Agree}
use Rattle.descent.specs.Kept.{LongPath}
use Rattle.descent.specs.Links.{no_link, Path, Descends}
use Rattle.descent.specs.Loops.{LoopFree}
use Rattle.descent.specs.Trims.{Implied, Flag, Flagged, Trimmed, ones}
use Rattle.descent.proofs.Flagging.{same_flags, trim_within, trim_room}
use Rattle.descent.proofs.Keeping.{kept_unimplied}
use Rattle.descent.proofs.Ranks.{either_long_path}
use Rattle.rows.specs.KeptEntries.{kept_entry, kept_of, kept_count}
use Rattle.rows.proofs.LongPaths.{long_entry, short_entry}

module _ (links : List Link) (free : LoopFree links) where
  entry_flags : (k : ℕ) → k < length links → Flag (kept_entry links (get_or links k no_link)) (Implied links (Descends links) (get_or links k no_link))
  entry_flags k h =
      let l = get_or links k no_link in
      ⊎_elim
      (λ (long : LongPath links l.from l.to).
      inl (long_entry links l long, (long.0, long.1, (λ e. free l.to (subst (λ (x : ℕ). Path links x l.to) e long.2)), inr long.2)))
      (λ (none : LongPath links l.from l.to → ⊥).
      inr (short_entry links l none, kept_unimplied links free l.from l.to (k, h, refl, refl) ((k, h, refl, refl), none)))
      (either_long_path links l.from l.to)

  kept_flagged : Flagged links (Descends links) (length links) (kept_of links)
  kept_flagged k h =
      subst (λ (f : ℕ). Flag f (Implied links (Descends links) (get_or links k no_link))) (sym (get_or-map (kept_entry links) links k no_link 0 h)) (entry_flags k h)

  pub trim_keeps : (n : ℕ) (R : ℕ → ℕ → Type 0) → Agree n R (Descends links) → (before after : List ℕ) (kept : ℕ) → Trimmed links n R before after (Ok kept)
      → (take (length links) after ≡ kept_of links) × (kept ≡ kept_count links)
  trim_keeps n R agree before after kept p =
      let size : length (kept_of links) ≡ length links = length-map links (kept_entry links) in
      let room : length links ≤ length after = omega (arith, trim_room n links (length before) p.0, p.1) in
      let same : take (length links) after ≡ kept_of links =
      same_flags links n (trim_within n links (length before) p.0) R (Descends links) agree after (kept_of links) room (omega arith) p.2 kept_flagged
      ∙ take_all (length links) (kept_of links) (omega arith) in
      (same, p.4 ∙ ap ones same)
