-- "The engine's own answers, with the accepted sizes in order and k the number opened, are passed": "the shelf's plan" is "of masters still shelved", with
-- "settled sizes, or the greatest till then", and k goes by every bin ever opened. "Plans are checked production by production": each production's own plan
-- is passed. Proved in ../proofs/OwnPlan.antt.
use Rattle.std.specs.Prelude.{◌≡◌}
use Rattle.packing.specs.Prelude.{List}
use Rattle.packing.specs.declared.{Opening.Opening, Production.Production, Command.Command}
use Rattle.packing.specs.Refusing.{pass}
use Rattle.packing.specs.Plans.{check}
use Rattle.packing.specs.Compared.{number_opened, shelf_plan, shelved_sizes}

abbrev pub OwnPlan : Opening → Production → List Command → Type 0
OwnPlan o q cs = check o.capacity (number_opened o q cs) (shelf_plan o q cs) (shelved_sizes o q cs) ≡ pass
