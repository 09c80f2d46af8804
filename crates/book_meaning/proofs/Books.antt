-- The names that a history enters are lawful, and so a book's text reads back.
use Rattle.std.proofs.Common.{◌≡◌, [], ◌∷◌, length, Some, None, Ok, Err, Option, sym, refl, subst, arith}
use Rattle.settling.specs.declared.outcome.Unsettled.TheVariants.{ShortTable, Loop as LoopFound, ShortIndex}
use Rattle.std.proofs.lemmas.List.{length-take-le}
use Rattle.rows.specs.KeptEntries.{kept_of, kept_links}
use Rattle.hierarchy.specs.Books.{book_of}
use Rattle.names.proofs.Keeping.{holds_itself}
use Rattle.register.specs.declared.register.Register.{Register}
use Rattle.register.specs.Contents.{contents_of}
use Rattle.register.specs.Entries.{Entries}
use Rattle.register.proofs.Backing.{links_few, links_within}
use Rattle.declarations.specs.declared.book.Book.{Book}
use Rattle.declarations.specs.Histories.{put_back, Event, loads, opens, keeps, withdraws, settles, asks, History, Moment, step, moment_after}
use Rattle.declarations.specs.Telling.{Tells}
use Rattle.printing_meaning.specs.LawfulNames.{LawfulNames}
use Rattle.printing_meaning.specs.RoundTrip.{Printable}
use Rattle.printing_meaning.proofs.Entered.{texts_enter_lawful_names_lem}
use Rattle.printing_meaning.proofs.Marking.{marked-printable}
use Rattle.printing_meaning.proofs.ReadingBack.{printed_books_read_back}
use Rattle.book_meaning.specs.ReadingBack.{EveryBookReadsBack}

abbrev LawfulAside : Option Entries → Type 0
LawfulAside (Some e) = LawfulNames e.names
LawfulAside None = Unit {0}

abbrev LawfulMoment : Moment → Type 0
LawfulMoment m = LawfulNames m.force.names × LawfulAside m.aside

put_back_lem : (m : Moment) (o : Option Entries) → m.aside ≡ o → LawfulMoment m → LawfulNames (put_back o m.force).names
put_back_lem m (Some e) is l = let P : Option Entries → Type 0 = LawfulAside in subst P is l.1
put_back_lem m None is l = l.0

lawful_step : (e : Event) (m : Moment) → LawfulMoment m → LawfulMoment (step e m)
lawful_step (loads shipped own (Ok u)) m l = (texts_enter_lawful_names_lem m.force shipped own l.0, l.1)
lawful_step (loads shipped own (Err x)) m l = l
lawful_step (opens (Ok t)) m l = (l.0, l.0)
lawful_step (opens (Err x)) m l = l
lawful_step (keeps t (Ok u)) m l = (l.0, tt)
lawful_step (keeps t (Err x)) m l = l
lawful_step (withdraws t (Ok u)) m l = (put_back_lem m m.aside refl l, tt)
lawful_step (withdraws t (Err x)) m l = l
lawful_step (settles loop scratch given kept (Ok s)) m l = l
lawful_step (settles loop scratch given kept (Err ShortTable)) m l = l
lawful_step (settles loop scratch given kept (Err (LoopFound size))) m l = l
lawful_step (settles loop scratch given kept (Err (ShortIndex needed))) m l = l
lawful_step (asks first second r) m l = l

lawful_after : (h : History) → LawfulMoment (moment_after h)
lawful_after [] = (tt, tt)
lawful_after (e ∷ h) = lawful_step e (moment_after h) (lawful_after h)

book_lawful : (h : History) (b : Book) → Tells h b → LawfulNames (contents_of b.register).entries.names
book_lawful h b t = let P : Moment → Type 0 = λ m. LawfulNames m.force.names in subst P (sym t.is) (lawful_after h).0

printable : (r : Register) → LawfulNames (contents_of r).entries.names → Printable (contents_of r).entries.names (contents_of r).entries.links (contents_of r).room
printable r lawful =
    let n = r.names in
    let held = holds_itself n in
    let linked : length (contents_of r).entries.links ≡ r.numbered.entered.count = length-take-le (book_of r.numbered).held.count (book_of r.numbered).held.table (links_few r) in
    record {
      lawful = lawful;
      different = n.different;
      few_types = held.few_types;
      few_bytes = held.few_bytes;
      within = links_within r;
      few_links = (omega (arith, linked, links_few r), omega (arith, linked, r.numbered.entered.few_links.1));
    }

pub every_book_reads_back : EveryBookReadsBack
every_book_reads_back h b t =
    let c = contents_of b.register in
    let p = printable b.register (book_lawful h b t) in
    printed_books_read_back c.entries.names (kept_links c.entries.links) c.room (marked-printable c.entries.names c.entries.links (kept_of c.entries.links) c.room p)
