-- That right answers keep the law.
use Rattle.std.proofs.Common.{◌≡◌, ℕ, ◌*◌, ◌≤◌, Bool, List, [], ◌∷◌, ◌++◌, Some, None, Ok, Err, Decides, Option, Result, sym, refl, ap, ◌∙◌, subst, arith}
use Rattle.descent.specs.declared.link.Link.{Link}
use Rattle.descent.specs.Computed.{descends}
use Rattle.descent.specs.Links.{Descends}
use Rattle.descent.specs.Loops.{LoopFree}
use Rattle.descent.proofs.Closures.{decides_descends}
use Rattle.rows.specs.KeptEntries.{kept_of, kept_count}
use Rattle.rows.proofs.Reductions.{reduction}
use Rattle.rows.proofs.Trimming.{trim_keeps}
use Rattle.settling.specs.declared.outcome.Settled.{Settled}
use Rattle.settling.specs.declared.outcome.Unsettled.TheVariants.{ShortTable, Loop as LoopFound, ShortIndex}
use Rattle.names.specs.Finding.{number_in}
use Rattle.register.specs.declared.refusal.NotAsked.{NotAsked}
use Rattle.register.specs.Asking.{numbers_answer, said_of}
use Rattle.register.specs.Entries.{Entries}
use Rattle.register.proofs.Asking.{found_by}
use Rattle.declarations.specs.Histories.{Event, loads, opens, keeps, withdraws, settles, asks, History, Kept, Moment, step, moment_after, Setup, Right, AllRight}
use Rattle.declarations.specs.Law.{links_after, DescendsByName, LeastWithTheDescent, Law}

-- the right answer at each place
right_at : (k : Setup) (h later before : History) (e : Event) → AllRight k h → h ≡ later ++ (e ∷ before) → Right k (moment_after before) e
right_at k h [] before e all is = let A : History → Type 0 = AllRight k in (subst A is all).0
right_at k h (x ∷ later) before e all is = let A : History → Type 0 = AllRight k in right_at k (later ++ (e ∷ before)) later before e (subst A is all).1 refl

-- an accepted ask
said_found : (links : List Link) (r : Result (ℕ × ℕ) NotAsked) (said : Bool) → Ok said ≡ said_of links r → (pair : ℕ × ℕ) × (r ≡ Ok pair) × (said ≡ descends links pair.0 pair.1)
said_found links (Ok pair) said e = (pair, refl, cc)
said_found links (Err x) said e = let z : ◌≡◌ {A = ℕ} 0 1 = cc in absurd (omega arith)

numbers_by : {X : Type 0} (settled : Option X) (names : List (List ℕ)) (first second : List ℕ) (pair : ℕ × ℕ) → numbers_answer settled names first second ≡ Ok pair → (number_in names first ≡ Some pair.0) × (number_in names second ≡ Some pair.1)
numbers_by (Some x) names first second pair e = found_by (number_in names first) (number_in names second) pair e
numbers_by None names first second pair e = let z : ◌≡◌ {A = ℕ} 0 1 = cc in absurd (omega arith)

ask_decides : {X : Type 0} (settled : Option X) (e : Entries) (first second : List ℕ) (said : Bool) → Ok said ≡ said_of e.links (numbers_answer settled e.names first second) → Decides said (DescendsByName e first second)
ask_decides settled e first second said right =
    let f = said_found e.links (numbers_answer settled e.names first second) said right in
    let a = f.0.0 in
    let b = f.0.1 in
    let n = numbers_by settled e.names first second f.0 f.1 in
    let d = decides_descends e.links a b in (
      λ yes. (a, b, n.0, n.1, d.0 (sym f.2 ∙ yes)),
      λ p.
          let ea : p.0 ≡ a = let q : Some p.0 ≡ Some a = sym p.2 ∙ n.0 in cc in
          let eb : p.1 ≡ b = let q : Some p.1 ≡ Some b = sym p.3 ∙ n.1 in cc in
          f.2 ∙ d.1 (subst (λ x. Descends e.links a x) eb (subst (λ x. Descends e.links x p.1) ea p.4)),
    )

-- what was kept, while the book is settled
pub record Stands (m : Moment) (kept : Kept) : Type 0 where
  pub loop_free : LoopFree m.force.links
  pub entries : kept.entries ≡ kept_of m.force.links
  pub number : kept.number ≡ kept_count m.force.links

abbrev Stood : Moment → Type 0
Stood m = (kept : Kept) → m.settled ≡ Some kept → Stands m kept

none_stood : (m : Moment) → m.settled ≡ None → Stood m
none_stood m e kept is = let q : None ≡ Some kept = sym e ∙ is in let z : ◌≡◌ {A = ℕ} 0 1 = cc in absurd (omega arith)

stood_step : (k : Setup) (m : Moment) (e : Event) → Right k m e → Stood m → Stood (step e m)
stood_step k m (loads shipped own (Ok u)) right stood = none_stood (step (loads shipped own (Ok u)) m) refl
stood_step k m (loads shipped own (Err x)) right stood = stood
stood_step k m (opens (Ok t)) right stood = λ kept is. let s = stood kept is in record { loop_free = s.loop_free; entries = s.entries; number = s.number }
stood_step k m (opens (Err x)) right stood = stood
stood_step k m (keeps t (Ok u)) right stood = λ kept is. let s = stood kept is in record { loop_free = s.loop_free; entries = s.entries; number = s.number }
stood_step k m (keeps t (Err x)) right stood = stood
stood_step k m (withdraws t (Ok u)) right stood = none_stood (step (withdraws t (Ok u)) m) refl
stood_step k m (withdraws t (Err x)) right stood = stood
stood_step k m (settles loop scratch given entries (Ok s)) right stood = λ kept is.
    let q : record { entries = entries; number = s.kept } ≡ kept = cc in
    let r = right.1 in
    record {
      loop_free = r.loop_free;
      entries = sym (ap (λ (x : Kept). x.entries) q) ∙ r.entries;
      number = sym (ap (λ (x : Kept). x.number) q) ∙ ap (λ (x : Settled). x.kept) r.answer;
    }
stood_step k m (settles loop scratch given entries (Err ShortTable)) right stood = stood
stood_step k m (settles loop scratch given entries (Err (LoopFound size))) right stood = none_stood (step (settles loop scratch given entries (Err (LoopFound size))) m) refl
stood_step k m (settles loop scratch given entries (Err (ShortIndex needed))) right stood = none_stood (step (settles loop scratch given entries (Err (ShortIndex needed))) m) refl
stood_step k m (asks first second r) right stood = stood

stood_after : (k : Setup) (h : History) → AllRight k h → Stood (moment_after h)
stood_after k [] all = none_stood (moment_after []) refl
stood_after k (e ∷ h) all = stood_step k (moment_after h) e all.0 (stood_after k h all.1)

least : (links : List Link) (entries : List ℕ) (s : Settled) → LoopFree links → entries ≡ kept_of links → s.kept ≡ kept_count links → s.kept ≤ s.chains * s.types → LeastWithTheDescent links entries s
least links entries s free is count few =
    let P : List ℕ → Type 0 = λ es. LeastWithTheDescent links es s in
    subst P (sym is) (record {
      same_descent = reduction.same links free;
      least = λ others same a b l. reduction.least links others free same a b l;
      counted = count ∙ sym (reduction.number links);
      few = few;
    })

pub law_kept : {S : Type 0} (count : S → ℕ) (relates : S → ℕ → ℕ → Type 0) (k : Setup) (h : History) → AllRight k h → Law count relates k h
law_kept count relates k h all = record {
  each_call_is_answered_as_its_questions_say = record {
    answers = λ later before e is. right_at k h later before e all is;
    an_ask_says_yes_exactly_on_descent = λ later before first second said is. ask_decides (moment_after before).settled (moment_after before).force first second said (right_at k h later before (asks first second (Ok said)) all is);
    a_settle_refused_for_a_loop_had_one = λ later before loop scratch given kept size is. (right_at k h later before (settles loop scratch given kept (Err (LoopFound size))) all is).1;
    an_accepted_settle_had_none = λ later before loop scratch given kept s is. (right_at k h later before (settles loop scratch given kept (Ok s)) all is).1.loop_free;
  };
  kept_links_are_the_least_with_the_descent = λ later before loop scratch given kept s is.
      let r = (right_at k h later before (settles loop scratch given kept (Ok s)) all is).1 in
      least (links_after before) kept s r.loop_free r.entries (ap (λ (x : Settled). x.kept) r.answer) r.few;
  trimming_gives_what_was_kept = λ kept is s agree before after number trimmed.
      let stands = stood_after k h all kept is in
      let t = trim_keeps (links_after h) stands.loop_free (count s) (relates s) agree before after number trimmed in
      (t.0 ∙ sym stands.entries, t.1 ∙ sym stands.number);
}
