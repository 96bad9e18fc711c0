-- The texts of a generated session: the domain, the members, and the lines of the script, by the number of carts.
use Rattle.std.specs.Prelude.{ℕ, ◌+◌, ◌/◌, ◌%◌, List, [], ◌∷◌, ◌++◌, map, codes}
use Rattle.std.specs.Global.{Vec}
use Rattle.std.specs.List.{flat_map, range_with_len}
use Rattle.ps_world.specs.Lines.{line_end}

-- these lines as a text, each ended by an LF
abbrev pub text_of : List (List ℕ) → List ℕ
text_of lines = flat_map (λ line. line ++ line_end) lines

-- the domain, in which a cart is carried from one spot to the next
unfoldable pub domain_text : List ℕ
domain_text = text_of (
    codes "(define (domain warehouse) (:types cart spot)"
    ∷ codes " (:predicates (at ?c - cart ?s - spot) (next ?a - spot ?b - spot))"
    ∷ codes " (:durative-action carry :parameters (?c - cart ?a - spot ?b - spot)"
    ∷ codes "  :duration (= ?duration 2)"
    ∷ codes "  :condition (and (at start (at ?c ?a)) (over all (next ?a ?b)))"
    ∷ codes "  :effect (and (at start (not (at ?c ?a))) (at end (at ?c ?b)))))" ∷ [])

-- a performer of this name that carries, where the arguments fit this pattern
abbrev pub performer_text : List ℕ → List ℕ → List ℕ
performer_text name pattern = text_of (
    (codes "performer " ++ name) ∷ codes "action carry" ∷ (codes "args " ++ pattern)
    ∷ codes "job" ∷ codes "work" ∷ codes "finish ok" ∷ codes "end" ∷ [])

-- the first member, which carries from any spot
unfoldable pub carrier_text : List ℕ
carrier_text = performer_text (codes "carrier") (codes "_ _ _")

-- the second member, which carries from the store alone
unfoldable pub helper_text : List ℕ
helper_text = performer_text (codes "helper") (codes "_ store _")

-- the name of a cart: `c`, and its number in three digits
abbrev pub cart_name : ℕ → List ℕ
cart_name cart = 99 ∷ (48 + cart / 100 % 10) ∷ (48 + cart / 10 % 10) ∷ (48 + cart % 10) ∷ []

-- the most carts
abbrev pub most_carts : ℕ
most_carts = 100

-- the carts, which are numbered from 1
abbrev pub carts_of : ℕ → List ℕ
carts_of carts = range_with_len 1 carts

-- a line in which a cart's name stands between these words
abbrev pub line_on : List ℕ → List ℕ → ℕ → List ℕ
line_on before after cart = before ++ (cart_name cart ++ after)

-- the lines that set the spots, and which of them is next to which
abbrev pub stage_lines : List (List ℕ)
stage_lines =
    codes "set instance store spot" ∷ codes "set instance aisle spot" ∷ codes "set instance dock spot"
    ∷ codes "set predicate (next store aisle)" ∷ codes "set predicate (next aisle dock)" ∷ []

-- the line that sets a cart
abbrev pub cart_line : ℕ → List ℕ
cart_line = line_on (codes "set instance ") (codes " cart")

-- the line that puts a cart into the store
abbrev pub store_line : ℕ → List ℕ
store_line = line_on (codes "set predicate (at ") (codes " store)")

-- the line that sets the goal of a trip: the cart is at the dock
abbrev pub goal_line : ℕ → List ℕ
goal_line = line_on (codes "set goal (and (at ") (codes " dock))")

-- the lines that bring a cart to the dock
abbrev pub trip_lines : ℕ → List (List ℕ)
trip_lines cart = goal_line cart ∷ codes "run" ∷ []

-- the command lines of the script: the spots, the carts, where these are, and the trip of each
unfoldable pub script_lines : ℕ → List (List ℕ)
script_lines carts =
    stage_lines ++ (map cart_line (carts_of carts) ++ (map store_line (carts_of carts) ++ flat_map trip_lines (carts_of carts)))

-- the texts of lines that the code made
abbrev pub texts_of : List (Vec ℕ) → List (List ℕ)
texts_of lines = map (λ line. line.items) lines
