-- Why a file can't be had, in words.
use Rattle.std.specs.Prelude.{ℕ, List, ◌++◌, codes}
use Rattle.std.specs.Fmt.{decimal}
use Rattle.console.specs.declared.reading.Problem.{Problem}
use Rattle.console.specs.declared.reading.Problem.TheVariants.{NotThere, CannotOpen, CannotRead, TooLong}

-- what is printed behind the file's name
abbrev pub problem_text : Problem → List ℕ
problem_text NotThere = codes "is not there"
problem_text CannotOpen = codes "can't be opened"
problem_text CannotRead = codes "can't be read"
problem_text (TooLong longest) = codes "is longer than " ++ decimal longest ++ codes " bytes"
