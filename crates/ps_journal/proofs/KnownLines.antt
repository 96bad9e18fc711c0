-- What is declared and known is told of a session as it is told of a problem.
use Rattle.std.proofs.Common.{◌≡◌, ◌≢◌, ◌∙◌, ℕ, List, ◌++◌, Result, OnOk, ap, refl}
use Rattle.ps_world.specs.Names.{Table}
use Rattle.ps_world.specs.declared.domains.Domain.{Domain}
use Rattle.ps_world.specs.declared.known.Knowledge.{Knowledge}
use Rattle.ps_machine.specs.declared.inputs.Input.{Input}
use Rattle.ps_machine.specs.declared.inputs.Query.{Query}
use Rattle.ps_machine.specs.declared.inputs.Query.TheVariants as query
use Rattle.ps_machine.specs.declared.journal.Entry.{Entry}
use Rattle.ps_rules.specs.Known.{know}
use Rattle.ps_rules.specs.Journal.{answer_lines, reply_text}
use Rattle.ps_journal.specs.Told.{known_lines}
use Rattle.ps_journal.proofs.HeadTexts.{ok-weaker}

pub answer-known : (names : Table) (i : Input) (es : List Entry) (q : Query) → q ≢ query.Plan → q ≢ query.Tree → known_lines names i.domain (know i es) q ≡ answer_lines names i es q
answer-known names i es query.ModelTypes plan tree = refl
answer-known names i es query.ModelPredicates plan tree = refl
answer-known names i es query.ModelFunctions plan tree = refl
answer-known names i es query.ModelActions plan tree = refl
answer-known names i es (query.ModelPredicate n) plan tree = refl
answer-known names i es (query.ModelAction n) plan tree = refl
answer-known names i es query.Domain plan tree = refl
answer-known names i es query.ProblemInstances plan tree = refl
answer-known names i es query.ProblemPredicates plan tree = refl
answer-known names i es query.ProblemFunctions plan tree = refl
answer-known names i es query.ProblemGoal plan tree = refl
answer-known names i es query.Plan plan tree = absurd (plan refl)
answer-known names i es query.Tree plan tree = absurd (tree refl)

-- where what is declared or known was told, the query is answered
pub known_answered : {E : Type 0} (names : Table) (i : Input) (es : List Entry) (q : Query) (d : Domain) (k : Knowledge) (r : Result (Unit {0}) E) (old new : List ℕ) → d ≡ i.domain → k ≡ know i es → q ≢ query.Plan → q ≢ query.Tree
    → OnOk r (new ≡ old ++ reply_text (known_lines names d k q)) → OnOk r (new ≡ old ++ reply_text (answer_lines names i es q))
known_answered names i es q d k r old new domain known plan tree h =
    let same : known_lines names d k q ≡ answer_lines names i es q = (λ j. known_lines names (domain j) (known j) q) ∙ answer-known names i es q plan tree in
    ok-weaker r (λ e. e ∙ ap (λ lines. old ++ reply_text lines) same) h
