-- The lines of the generator's script are few command lines, which name no file.
use Rattle.std.proofs.Common.{ℕ, inl, inr, List, [], ◌∷◌, ◌++◌, All, codes, map, refl}
use Rattle.std.specs.Global.{Vec}
use Rattle.std.specs.List.{flat_map}
use Rattle.std.proofs.lemmas.List.Elements.{All-nil, All-cons, All-append, All-head, All-tail}
use Rattle.ps_script.specs.Kinds.{IsKind}
use Rattle.ps_script.specs.declared.kinds.Kind.TheVariants.{Command}
use Rattle.ps_gen.specs.Texts.{cart_line, carts_of, goal_line, script_lines, stage_lines, store_line, texts_of, trip_lines}

-- a line is a command that names no file
abbrev pub IsCommand : List ℕ → Type 0
IsCommand bytes = IsKind bytes Command

-- so is one that begins with `set`
set_command : (rest : List ℕ) → IsCommand (codes "set " ++ rest)
set_command rest = (refl, inr (refl, inl refl))

run_command : IsCommand (codes "run")
run_command = (refl, inr (refl, inl refl))

-- so are lines that are made alike
each_command : {X : Type 0} (line : X → List ℕ) → ((x : X) → IsCommand (line x)) → (xs : List X) → All IsCommand (map line xs)
each_command line is [] = All-nil IsCommand
each_command line is (x ∷ xs) = All-cons IsCommand (line x) (map line xs) (is x) (each_command line is xs)

stage_commands : All IsCommand stage_lines
stage_commands = each_command (λ rest. codes "set " ++ rest) set_command (
    codes "instance store spot" ∷ codes "instance aisle spot" ∷ codes "instance dock spot"
    ∷ codes "predicate (next store aisle)" ∷ codes "predicate (next aisle dock)" ∷ [])

trip_commands : (carts : List ℕ) → All IsCommand (flat_map trip_lines carts)
trip_commands [] = All-nil IsCommand
trip_commands (cart ∷ carts) =
    All-cons IsCommand (goal_line cart) (codes "run" ∷ flat_map trip_lines carts) (refl, inr (refl, inl refl))
    (All-cons IsCommand (codes "run") (flat_map trip_lines carts) (refl, inr (refl, inl refl)) (trip_commands carts))

pub script_commands : (carts : ℕ) → All IsCommand (script_lines carts)
unfolding script_lines
script_commands carts =
    let cs = carts_of carts in
    All-append IsCommand stage_lines _ stage_commands
    (All-append IsCommand (map cart_line cs) _ (each_command cart_line (λ cart. (refl, inr (refl, inl refl))) cs)
    (All-append IsCommand (map store_line cs) (flat_map trip_lines cs) (each_command store_line (λ cart. (refl, inr (refl, inl refl))) cs) (trip_commands cs)))

-- the same of the lines that hold these texts
pub held_commands : (lines : List (Vec ℕ)) → All IsCommand (texts_of lines) → All (λ line. IsCommand line.items) lines
held_commands [] is = All-nil (λ (line : Vec ℕ). IsCommand line.items)
held_commands (line ∷ lines) is =
    All-cons (λ (l : Vec ℕ). IsCommand l.items) line lines (All-head IsCommand line.items (texts_of lines) is) (held_commands lines (All-tail IsCommand line.items (texts_of lines) is))
