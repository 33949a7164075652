-- Private: the boards on which a publisher leaves notices for its readers.
use Rattle.std.specs.Prelude.{◌≡◌, ℕ, List, [], ◌∷◌}
use Rattle.logbook.specs.Pages.{Book}
use Rattle.live_versions.specs.Seen.{SeenValue}

-- the numbers of a store's book, which are the tag of its board
abbrev pub numbers_of : Book → List ℕ
numbers_of book = book.number ∷ book.log_name ∷ book.cells_name ∷ []

-- a notice is of the store whose book has these numbers
abbrev pub IsOfStore : List ℕ → SeenValue → Type 0
IsOfStore tag notice = tag ≡ numbers_of notice.book
