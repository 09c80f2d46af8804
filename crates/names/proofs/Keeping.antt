-- What follows from what a value of `Names` keeps at all times.
use Rattle.std.proofs.Common.{◌≡◌, ℕ, ◌+◌, ◌-◌, ◌<◌, ◌≤◌, List, [], length, get_or, take, replicate, vec_items, vec_len, sym, refl, ap, ◌∙◌, subst, zero-add, arith}
use Rattle.std.proofs.lemmas.List.{get_or_read_under, get_or_append_left}
use Rattle.names.specs.declared.span.Span.{Span}
use Rattle.names.specs.declared.names.Names.{Names}
use Rattle.names.specs.Tables.{span, bytes_of, spans_from, part}
use Rattle.names.specs.Held.{names_in, pool_size, table_size, Holds}
use Rattle.names.proofs.Laying.{Laid, laid_names, length-spans_from, span_start, span_end, length-names_at, get_or-names_at}

module _ (n : Names) where
  pub table_length : length (vec_items n.spans) ≡ vec_len n.spans
  table_length = omega (arith, n.spans.ok.0)

  pub counted : length (names_in n) ≡ n.count
  counted = length-names_at (vec_items n.pool) (vec_items n.spans) n.count (omega (arith, table_length, n.in_table))

  -- it holds exactly its names
  pub holds_itself : Holds (names_in n) (pool_size n) (table_size n) n
  holds_itself =
      record {
        read = refl;
        pool = n.whole_pool;
        table = n.whole_table;
        pool_size_is = refl;
        table_size_is = refl;
        count = sym counted;
        used = n.in_use;
        few_types = (omega (arith, counted, n.in_table), omega (arith, counted, n.few_types));
        few_bytes = (omega (arith, n.in_use, n.in_pool), omega (arith, n.in_use, n.few_bytes));
        different = n.different;
      }

  -- it holds the names that are laid in its tables
  pub holds_laid : (names : List (List ℕ)) (size places : ℕ) → pool_size n ≡ size → table_size n ≡ places → Laid (vec_items n.pool) (vec_items n.spans) size places n.count n.used names → Holds names size places n
  holds_laid names size places s p l =
      record {
        read = laid_names (vec_items n.pool) (vec_items n.spans) size places n.count n.used names l;
        pool = l.pool_is;
        table = l.spans_is;
        pool_size_is = s;
        table_size_is = p;
        count = l.count_is;
        used = l.used_is;
        few_types = (omega (arith, l.count_is, l.in_table), omega (arith, l.count_is, l.few_types));
        few_bytes = (omega (arith, l.used_is, l.in_pool), omega (arith, l.used_is, l.few_bytes));
        different = l.different;
      }

  -- an entry of the name table, and what it marks
  module _ (i : ℕ) (s : Span) (below : i < n.count) (is : s ≡ get_or (vec_items n.spans) i s) where
    entry : s ≡ get_or (vec_items n.spans) i (span 0 0)
    entry = get_or_read_under (vec_items n.spans) i (vec_len n.spans) s (span 0 0) is (omega (arith, n.in_table)) (sym table_length)

    laid : s ≡ get_or (spans_from 0 (names_in n)) i (span 0 0)
    laid =
        let marks = spans_from 0 (names_in n) in
        let rest = replicate (vec_len n.spans - length marks) (span 0 0) in
        entry ∙ ap (λ l. get_or l i (span 0 0)) n.whole_table ∙ get_or_append_left marks rest (span 0 0) i (omega (arith, length-spans_from 0 (names_in n), counted))

    pub marked_start : s.start ≡ length (bytes_of (take i (names_in n)))
    marked_start = ap (λ (t : Span). t.start) laid ∙ span_start 0 (names_in n) i (span 0 0) (omega (arith, counted)) ∙ zero-add _

    pub marked_end : s.start + s.length ≤ vec_len n.pool
    marked_end =
        let P : Span → Type 0 = λ t. t.start + t.length ≤ 0 + length (bytes_of (names_in n)) in
        let h : P s = subst P (sym laid) (span_end 0 (names_in n) i (span 0 0) (omega (arith, counted))) in
        omega (arith, n.in_pool, n.in_use)

    pub marked_part : part (vec_items n.pool) s ≡ get_or (names_in n) i []
    marked_part =
        ap (part (vec_items n.pool)) entry
        ∙ sym (get_or-names_at (vec_items n.pool) (vec_items n.spans) n.count i (span 0 0) (omega (arith, table_length, n.in_table)) below)
