-- 01's numbers (01, "Numbers from the input" and "Numbers from the state"; the later ones are those of the requests that brought them). One case
-- for each; an answer's number is that of its refusal, 0 where nothing is refused.
use Rattle.std.specs.Prelude.{ℕ, Result, Ok, Err}
use Rattle.refusal.specs.declared.Refusal.{Refusal}
use Rattle.refusal.specs.declared.Refusal.TheVariants.{Frame, Version, Size, Entry, Mirror, Magnitude, Rank, Rule, Search, Index, Pin, Block, Range, Walk, TurnSweeps, TurnRuns, Present, Moves, Slice, Stage, Record}

abbrev pub number_of : Refusal → ℕ
number_of Frame = 11
number_of Version = 12
number_of Size = 13
number_of Entry = 14
number_of Mirror = 15
number_of Magnitude = 16
number_of Rank = 17
number_of Rule = 18
number_of Search = 19
number_of Index = 20
number_of Pin = 21
number_of Block = 22
number_of Range = 23
number_of Walk = 24
number_of TurnSweeps = 25
number_of TurnRuns = 26
number_of Present = 27
number_of Moves = 28
number_of Slice = 31
number_of Stage = 32
number_of Record = 33

abbrev pub numbered : {A : Type 0} → Result A Refusal → ℕ
numbered (Ok value) = 0
numbered (Err refusal) = number_of refusal

-- the answer with the number in the place of the refusal
abbrev pub in_numbers : {A : Type 0} → Result A Refusal → Result A ℕ
in_numbers (Ok value) = Ok value
in_numbers (Err refusal) = Err (number_of refusal)
