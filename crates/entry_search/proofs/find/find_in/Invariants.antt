use Rattle.entry_search.proofs.find.find_in.Given as goal

abbrev pub ghosts-search_uncounted : goal.ghosts-search_uncounted
ghosts-search_uncounted a = record { name = a.blank.name; parts = a.blank.parts }
