-- What is proved of every history.
use Rattle.std.specs.Prelude.{ℕ}
use Rattle.declarations.specs.declared.book.Book.{Book}
use Rattle.declarations.specs.Books.{state_of}
use Rattle.declarations.specs.Histories.{History}
use Rattle.declarations.specs.Law.{Law}
use Rattle.declarations.specs.Telling.{setup_of, Tells}

-- whatever history a book can have had keeps the law
abbrev pub EveryHistoryKeepsTheLaw : {S : Type 0} → (S → ℕ) → (S → ℕ → ℕ → Type 0) → Type 0
EveryHistoryKeepsTheLaw count relates = (h : History) (b : Book) → Tells h b → Law count relates (setup_of (state_of b)) h
