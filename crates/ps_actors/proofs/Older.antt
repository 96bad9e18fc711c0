-- Who has no work: nobody on requests of older plans, and a performer that isn't engaged on any.
use Rattle.std.proofs.Common.{◌≡◌, ℕ, ◌<◌, ◌&&◌, nat_le, nat_lt, true, false, Some, None, option_map, map, refl, if◌then◌else◌, List, [], ◌∷◌, ◌++◌, length, arith, ap, sym, ◌∙◌}
use Rattle.std.proofs.lemmas.List.Concat.{flat_map_single}
use Rattle.std.proofs.lemmas.Bool.Decides.{nat_tests}
use Rattle.ps_world.specs.declared.names.Name.{Name}
use Rattle.ps_machine.specs.declared.inputs.Input.{Input}
use Rattle.ps_machine.specs.declared.members.Unit.{Unit as Task}
use Rattle.ps_machine.specs.declared.journal.Entry.{Entry}
use Rattle.ps_rules.specs.Runs.{is_running}
use Rattle.ps_rules.specs.Auctions.{act_of, is_engaged, requests}
use Rattle.ps_rules.specs.Choices.{all_requests, beginnings, stops, unit_on, work_of}
use Rattle.ps_rules.specs.History.{IsHistory}
use Rattle.ps_rules.specs.Legal.{is_legal, row_allows}
use Rattle.ps_rules.specs.Lines.{answers_line}
use Rattle.ps_progress_laws.specs.Working.{HasNoWork}
use Rattle.ps_progress_laws.proofs.OneWork.{idle_has_no_work, older_has_no_work}
use Rattle.ps_ledger.specs.Requests.{request_at, TellsRequests}
use Rattle.ps_ledger.specs.declared.requests.Requests.{Requests}
use Rattle.ps_state.specs.State.{Stands}
use Rattle.ps_state.specs.declared.state.State.{State}
use Rattle.ps_actors.specs.Turns.{first_legal, work_event}
use Rattle.ps_actors.specs.declared.work.AboutWork.{AboutWork}
use Rattle.ps_actors.specs.declared.work.AboutWork.TheVariants as about
use Rattle.ps_actors.proofs.First.{either-none, found-nowhere}
use Rattle.ps_actors.proofs.Fitting.{first-later}
use Rattle.ps_actors.proofs.Heads.{head-nowhere}

-- a request before those of the present plan is for no act
pub actless : (es : List Entry) (l : Requests) (r : ℕ) → TellsRequests es l → r < l.of_plan → act_of r es ≡ None
actless es l r told lt =
    let low : nat_le l.of_plan r ≡ false = grind (arith, nat_tests, lt) in
    told.act r ∙ ap (λ b. if b && nat_lt r (length l.all.items) then Some (request_at l.all.items r).act else None) low

-- so nobody has work on it
pub older : (i : Input) (es : List Entry) (p : State) (name : Name) (r : ℕ) → Stands i es p → r < p.ledger.requests.of_plan → HasNoWork i es r name
older i es p name r kept lt = older_has_no_work i es r (actless es p.ledger.requests r kept.told.requests lt) name

-- a performer that isn't engaged has no work on any request
pub idle : (i : Input) (es : List Entry) → IsHistory i es → (name : Name) → is_engaged name es ≡ false → (r : ℕ) → HasNoWork i es r name
idle i es history name free r = idle_has_no_work i es history name free r

-- ---- what comes of having no work

pub own : (a : AboutWork) (name : Name) (r : ℕ) → answers_line (work_event a name r) ≡ false
own about.Stop name r = refl
own about.Begin name r = refl

none-fits : (i : Input) (es : List Entry) (a : AboutWork) (name : Name) (r : ℕ) → HasNoWork i es r name → row_allows i es (work_event a name r) ≡ false
none-fits i es about.Stop name r h = h.stops
none-fits i es about.Begin name r h = h.begins

pub nothing-due : (i : Input) (es : List Entry) (a : AboutWork) (name : Name) (r : ℕ) → is_running es ≡ true → HasNoWork i es r name
    → first_legal i es (work_event a name r ∷ []) ≡ None
nothing-due i es a name r live h = sym (first-later i es (work_event a name r) [] None live (own a name r) (sym (none-fits i es a name r h)) refl)

nothing-on-any : (i : Input) (es : List Entry) (a : AboutWork) (name : Name) → is_running es ≡ true → ((r : ℕ) → HasNoWork i es r name)
    → None ≡ first_legal i es (map (work_event a name) (all_requests es))
nothing-on-any i es a name live h =
    sym (ap (first_legal i es) (sym (flat_map_single (work_event a name) (all_requests es)))
    ∙ found-nowhere (is_legal i es) (λ k. work_event a name k ∷ []) 0 (requests es) (λ k lt. nothing-due i es a name k live (h k)))

-- nothing is stopped or begun
pub nothing-idle : (i : Input) (es : List Entry) (name : Name) → is_running es ≡ true → ((r : ℕ) → HasNoWork i es r name)
    → None ≡ first_legal i es (stops name es ++ beginnings name es)
nothing-idle i es name live h =
    either-none (is_legal i es) (stops name es) (beginnings name es) None (nothing-on-any i es about.Stop name live h) (nothing-on-any i es about.Begin name live h)

-- and no unit is done
pub no-work-idle : (i : Input) (es : List Entry) (name : Name) → ((r : ℕ) → HasNoWork i es r name) → None ≡ work_of i name es
no-work-idle i es name h =
    sym (head-nowhere (unit_on i name es) 0 (requests es) (λ k lt. ap (option_map (λ (u : Task). (k, u))) (h k).works))
