-- The numbers that words ask for are in their ranges.
use Rattle.std.proofs.Common.{◌≡◌, ℕ, ◌≤◌, ◌&&◌, Bool, true, false, nat_le, List, Option, Some, None, option_map, option_and_then, arith, codes, refl}
use Rattle.std.specs.Option.{IfSome}
use Rattle.std.proofs.lemmas.Bool.Decides.{nat_tests}
use Rattle.clap.proofs.WalkLemmas.{both}
use Rattle.clap.specs.Walk.{Row, Text, first_of}
use Rattle.ps_words.specs.Words.{IsInRange, asked_in, budget_in, carts_in, check_app, check_of, edit_app, editing_of, gen_app, generation_of, journal_app, number_of, number_or, plan_app, planning_of, replans_in, replay_of, replay_with, rows_read, session_app, session_of, session_with, text_in, validate_app, validation_of, within, workers_in}
use Rattle.ps_words.specs.Words.Request.{a_generation, a_planning}
use Rattle.ps_words.specs.declared.commands.Mode.{Mode}
use Rattle.ps_words.specs.declared.commands.Mode.TheVariants.{Session, Check, Validate, Plan, Replay, Migrate, Edit, Gen}

-- a number that is found to be within a range is in it
within-range : (low high m n : ℕ) → within low high m ≡ Some n → (low ≤ n) × (n ≤ high)
within-range low high m n is = go (nat_le low m && nat_le m high) refl
  where
    go : (t : Bool) → (nat_le low m && nat_le m high) ≡ t → (low ≤ n) × (n ≤ high)
    go false e = let none : None ≡ Some n = rw e at is in cc
    go true e =
        let same : Some m ≡ Some n = rw e at is in
        let p = both (nat_le low m) (nat_le m high) e in
        let equal : m ≡ n = cc in
        let above : low ≤ m = grind (arith, nat_tests) in
        let below : m ≤ high = grind (arith, nat_tests) in
        (omega arith, omega arith)

-- and so is the number of a text
read-range : (low high n : ℕ) (o : Option ℕ) → option_and_then (within low high) o ≡ Some n → (low ≤ n) × (n ≤ high)
read-range low high n None is = cc
read-range low high n (Some m) is = within-range low high m n is

-- and that of an option, where the usual one is in the range
option-range : (usual low high n : ℕ) (o : Option Text) → low ≤ usual → usual ≤ high → number_or usual low high o ≡ Some n → (low ≤ n) × (n ≤ high)
option-range usual low high n None above below is = let same : usual ≡ n = cc in (omega arith, omega arith)
option-range usual low high n (Some text) above below is = read-range low high n (number_of text) is

-- the numbers of a session, where each of them is in its range
numbers-range : (rows : List Row) (w b r : Option ℕ) → ((n : ℕ) → w ≡ Some n → (1 ≤ n) × (n ≤ 16)) → ((n : ℕ) → b ≡ Some n → (1 ≤ n) × (n ≤ 200000))
    → ((n : ℕ) → r ≡ Some n → (0 ≤ n) × (n ≤ 8))
    → IfSome (option_and_then (λ workers. option_and_then (λ budget. option_map (λ replans. session_with rows workers budget replans) r) b) w) IsInRange
numbers-range rows None b r few far anew = tt
numbers-range rows (Some w) None r few far anew = tt
numbers-range rows (Some w) (Some b) None few far anew = tt
numbers-range rows (Some w) (Some b) (Some r) few far anew = let x = few w refl in let y = far b refl in (x.0, x.1, y.0, y.1, (anew r refl).1)

session-range : (o : Option (List Row)) → IfSome (option_and_then session_of o) IsInRange
session-range None = tt
session-range (Some rows) = numbers-range rows (workers_in rows) (budget_in rows) (replans_in rows)
    (λ n is. option-range 2 1 16 n (first_of (codes "workers") rows) (omega arith) (omega arith) is) (λ n is. option-range 20000 1 200000 n (first_of (codes "budget") rows) (omega arith) (omega arith) is)
    (λ n is. option-range 3 0 8 n (first_of (codes "replans") rows) (omega arith) (omega arith) is)

-- the number of a plan that is searched for, where it is in its range
planning-number : (domain script : Text) (o : Option ℕ) → ((n : ℕ) → o ≡ Some n → (1 ≤ n) × (n ≤ 200000)) → IfSome (option_map (a_planning domain script) o) IsInRange
planning-number domain script None far = tt
planning-number domain script (Some n) far = far n refl

planning-range : (o : Option (List Row)) → IfSome (option_and_then planning_of o) IsInRange
planning-range None = tt
planning-range (Some rows) = planning-number (text_in (codes "domain") rows) (text_in (codes "script") rows) (budget_in rows)
    (λ n is. option-range 20000 1 200000 n (first_of (codes "budget") rows) (omega arith) (omega arith) is)

-- the numbers of a replay, where each of them is in its range
replay-numbers : (migrates : Bool) (rows : List Row) (b r : Option ℕ) → ((n : ℕ) → b ≡ Some n → (1 ≤ n) × (n ≤ 200000)) → ((n : ℕ) → r ≡ Some n → (0 ≤ n) × (n ≤ 8))
    → IfSome (option_and_then (λ budget. option_map (λ replans. replay_with migrates rows budget replans) r) b) IsInRange
replay-numbers migrates rows None r far few = tt
replay-numbers migrates rows (Some b) None far few = tt
replay-numbers migrates rows (Some b) (Some r) far few = let x = far b refl in (x.0, x.1, (few r refl).1)

replay-range : (migrates : Bool) (o : Option (List Row)) → IfSome (option_and_then (replay_of migrates) o) IsInRange
replay-range migrates None = tt
replay-range migrates (Some rows) = replay-numbers migrates rows (budget_in rows) (replans_in rows)
    (λ n is. option-range 20000 1 200000 n (first_of (codes "budget") rows) (omega arith) (omega arith) is) (λ n is. option-range 3 0 8 n (first_of (codes "replans") rows) (omega arith) (omega arith) is)

check-range : (o : Option (List Row)) → IfSome (option_map check_of o) IsInRange
check-range None = tt
check-range (Some rows) = tt

validation-range : (o : Option (List Row)) → IfSome (option_map validation_of o) IsInRange
validation-range None = tt
validation-range (Some rows) = tt

editing-range : (o : Option (List Row)) → IfSome (option_map editing_of o) IsInRange
editing-range None = tt
editing-range (Some rows) = tt

-- the number of carts, where it is in its range
carts-range : (o : Option ℕ) → ((n : ℕ) → o ≡ Some n → (1 ≤ n) × (n ≤ 100)) → IfSome (option_map a_generation o) IsInRange
carts-range None few = tt
carts-range (Some n) few = few n refl

generation-range : (o : Option (List Row)) → IfSome (option_and_then generation_of o) IsInRange
generation-range None = tt
generation-range (Some rows) = carts-range (carts_in rows) (λ n is. read-range 1 100 n (number_of (text_in (codes "carts") rows)) is)

-- what words ask for in a mode is in its ranges
pub asked_in_range : (m : Mode) (words : List Text) → IfSome (asked_in m words) IsInRange
asked_in_range Session words = session-range (rows_read session_app words)
asked_in_range Check words = check-range (rows_read check_app words)
asked_in_range Validate words = validation-range (rows_read validate_app words)
asked_in_range Plan words = planning-range (rows_read plan_app words)
asked_in_range Replay words = replay-range false (rows_read (journal_app (codes "replay")) words)
asked_in_range Migrate words = replay-range true (rows_read (journal_app (codes "migrate")) words)
asked_in_range Edit words = editing-range (rows_read edit_app words)
asked_in_range Gen words = generation-range (rows_read gen_app words)
