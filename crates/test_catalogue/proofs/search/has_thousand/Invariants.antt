use Rattle.test_catalogue.proofs.search.has_thousand.Given as goal

abbrev pub ghosts-finds_thousand : goal.ghosts-finds_thousand
ghosts-finds_thousand g = record { name = g.blank.name; parts = g.blank.parts }
