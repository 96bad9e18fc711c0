-- Samples that are computed: how many levels count in texts that end within forms that stand alone.
use Rattle.std.specs.Prelude.{◌≡◌, ℕ, List, [], ◌∷◌, ◌++◌}
use Rattle.ps_grammar.specs.Shape.{wanted}
use Rattle.ps_grammar.specs.Symbols.{level}
use Rattle.ps_grammar.specs.declared.marks.Mark.{Mark}
use Rattle.ps_grammar.specs.declared.marks.Mark.TheVariants.{Open, Close, Equal, Duration, Variable, DurativeAction, Parameters, DurationKey, ConditionKey, EffectKey, Number, Define, Domain, At, Start, End, And, Not, Forall, When, Name}
use Rattle.ps_reading_laws.specs.Levels.{levels_after, open_after}

-- (define (domain d) (:durative-action a :parameters () :duration (= ?duration 1)
abbrev pub action_begun : List Mark
action_begun = Open ∷ Define ∷ Open ∷ Domain ∷ Name ∷ Close ∷ Open ∷ DurativeAction ∷ Name ∷ Parameters ∷ Open ∷ Close ∷ DurationKey ∷ Open ∷ Equal ∷ Duration ∷ Number ∷ Close ∷ []

-- (forall (?x)
abbrev pub each : List Mark
each = Open ∷ Forall ∷ Open ∷ Variable ∷ Close ∷ []

-- (p ?x
abbrev pub fact : List Mark
fact = Open ∷ Name ∷ Variable ∷ []

-- :effect (at end (forall (?x) (when (p ?x) (not (p ?x
abbrev pub three_alone : List Mark
three_alone = action_begun ++ (EffectKey ∷ Open ∷ At ∷ End ∷ []) ++ each ++ (Open ∷ When ∷ []) ++ fact ++ (Close ∷ Open ∷ Not ∷ []) ++ fact

-- :effect (and (at end (forall (?x) (and (when (and) (p ?x
abbrev pub one_alone : List Mark
one_alone = action_begun ++ (EffectKey ∷ Open ∷ And ∷ Open ∷ At ∷ End ∷ []) ++ each ++ (Open ∷ And ∷ Open ∷ When ∷ Open ∷ And ∷ Close ∷ []) ++ fact

-- :condition (at start (forall (?x) (not (p ?x
abbrev pub condition_alone : List Mark
condition_alone = action_begun ++ (ConditionKey ∷ Open ∷ At ∷ Start ∷ []) ++ each ++ (Open ∷ Not ∷ []) ++ fact

-- :effect (and (at end (when (forall (?x) (not (p ?x
abbrev pub none_alone : List Mark
none_alone = action_begun ++ (EffectKey ∷ Open ∷ And ∷ Open ∷ At ∷ End ∷ Open ∷ When ∷ []) ++ each ++ (Open ∷ Not ∷ []) ++ fact

-- so many parentheses are open after the marks, and so many levels count
abbrev pub Counts : ℕ → ℕ → List Mark → Type 0
Counts parentheses levels ms = (open_after ms ≡ parentheses) × (levels_after ms ≡ levels) × (level (wanted ms) ≡ levels)

-- In an effect the timed form and the bodies of `forall` and `when` that stand in no `and` count for a level more each; in a condition the timed
-- form alone does.
abbrev pub SamplesCount : Type 0
SamplesCount = Counts 7 10 three_alone × Counts 2 2 (three_alone ++ (Close ∷ Close ∷ Close ∷ Close ∷ Close ∷ [])) × Counts 8 9 one_alone × Counts 6 7 condition_alone × Counts 8 8 none_alone
