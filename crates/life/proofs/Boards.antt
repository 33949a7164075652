-- A notice on a board is of the store that the board is for.
use Rattle.life.proofs.Common.{AllByRecursion, slice_index_or, ◌≡◌, ℕ, List, [], ◌∷◌, ap, sym, ◌∙◌, Client}
use Rattle.logbook.specs.Pages.{Book}
use Rattle.life.specs.Boards.{numbers_of}

one_book : (a b : Book) → numbers_of a ≡ numbers_of b → a ≡ b
one_book a b is =
    let place : (i : ℕ) → slice_index_or (numbers_of a) i 0 ≡ slice_index_or (numbers_of b) i 0 =
    λ i. ap (λ (l : List ℕ). slice_index_or l i 0) is in
    λ i. record { number = place 0 i; log_name = place 1 i; cells_name = place 2 i }

pub same_book : (tag : List ℕ) (a b : Book) → tag ≡ numbers_of a → tag ≡ numbers_of b → a ≡ b
same_book tag a b of_a of_b = one_book a b (sym of_a ∙ of_b)

-- each client's reader is of the board's store
pub fit_all : (tag : List ℕ) (book : Book) (clients : List Client) → tag ≡ numbers_of book
    → AllByRecursion (λ c. c.reader.book ≡ book) clients → AllByRecursion (λ c. tag ≡ numbers_of c.reader.book) clients
fit_all tag book [] is all = tt
fit_all tag book (c ∷ cs) is all = (is ∙ ap numbers_of (sym all.0), fit_all tag book cs is all.1)
