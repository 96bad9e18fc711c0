-- What a call that answers a line makes of a board.
use Rattle.std.proofs.Common.{◌≡◌, ◌≢◌, ℕ, zero, suc, ◌+◌, true, false, Option, Some, None, is_none, option_and_then, Result, Ok, Err, IfOk, OnOk, List, [], ◌∷◌, ◌++◌, append-nil, drop, length, length-append, replicate, slice_index_or, refl, ap, sym, ◌∙◌, subst, arith}
use Rattle.std.specs.Option.{option_map_or}
use Rattle.std.proofs.lemmas.Bool.{true≢false}
use Rattle.ps_action.specs.declared.acts.Act.{Act}
use Rattle.ps_action.specs.declared.answers.Answer.TheVariants.{Plan}
use Rattle.ps_machine.specs.declared.inputs.Query.TheVariants as query
use Rattle.ps_machine.specs.declared.journal.Event.TheVariants as event
use Rattle.ps_rules.specs.Known.{know}
use Rattle.ps_board.specs.Commands.{asks_plan}
use Rattle.ps_machine.specs.declared.inputs.Input.{Input}
use Rattle.ps_machine.specs.declared.inputs.Line.{Line}
use Rattle.ps_machine.specs.declared.journal.Event.{Event}
use Rattle.ps_machine.specs.declared.journal.Entry.{Entry}
use Rattle.ps_rules.specs.Choices.{line_event, Says, with_block}
use Rattle.ps_rules.specs.History.{IsHistory}
use Rattle.ps_rules.specs.Lines.{answered, next_line}
use Rattle.ps_rules.specs.Runs.{is_running, opens}
use Rattle.ps_board.specs.Board.{Appended, commanded, is_end, IsStep, nothing_done, with_done}
use Rattle.ps_board.proofs.Appending.{nothing-appended}
use Rattle.ps_board.specs.declared.board.Shown.{Shown}
use Rattle.ps_board.specs.declared.turns.Step.{Step}
use Rattle.ps_board.specs.declared.turns.Step.TheVariants.{Said, Planned, Opened, End}
use Rattle.ps_board.specs.Board.{IsAtRest}
use Rattle.ps_session.specs.Lines.{acts_in, Advances, EachAfter, IsAnswered, IsIdle, IsToldBy}
use Rattle.ps_session.specs.declared.lines.Advanced.{Advanced}
use Rattle.ps_session.specs.declared.ways.Turns.{Turns}
use Rattle.ps_pool.specs.Workers.{EndedBy}
use Rattle.ps_session.specs.declared.ways.Turns.TheVariants.{Workers}
use Rattle.ps_session.proofs.Steps.{a-line, ended-by-workers, HasEnded, no-line, run-answered, run-opened, said-answered, said-closed}
use Rattle.ps_session.proofs.Told.{asks-none, told-block, told-nothing, told-run}

-- ---- idle boards

abbrev nowhere : ℕ → List (Option ℕ)
nowhere n = replicate n None

none-replicated : (n p : ℕ) → slice_index_or (nowhere n) p None ≡ None
none-replicated zero p = refl
none-replicated (suc n) zero = refl
none-replicated (suc n) (suc p) = none-replicated n p

-- nothing was done on a board
pub idle-first : (i : Input) (b : Shown) → b ≡ nothing_done i → IsIdle i b
idle-first i b e = subst (IsIdle i) (sym e) (record {
  input = refl;
  rest = record { halted = refl; all_in = λ p. none-replicated _ p };
  closed = refl;
})

-- what a call does that answers the next line
pub record Commanded (says : Says) (old new : Shown) (s : Step) : Type 0 where
  pub answer : IsStep says old.input old.entries s
  pub end : is_end s ≡ is_none (next_line old.input old.entries)
  pub did : Appended 0 (commanded says old) old new

module _ (how : Turns) (says : Says) (old new : Shown) (s : Step) (c : Commanded says old new s) (idle : IsIdle old.input old) where
  abbrev i : Input
  i = old.input

  entries-so : new.entries ≡ with_done old 0 (commanded says old)
  entries-so = ap (λ (b : Shown). b.entries) c.did

  input-so : new.input ≡ i
  input-so = ap (λ (b : Shown). b.input) c.did

  pub rests : IsAtRest new
  rests = subst IsAtRest (sym c.did) (record { halted = idle.rest.halted; all_in = idle.rest.all_in })

  -- the event that answers a line
  pub record Answering : Type 0 where
    pub line : Line
    pub next : next_line i old.entries ≡ Some line
    pub event : Event
    pub made : line_event says i old.entries line ≡ Some event
    pub entries : new.entries ≡ with_block i 0 old.entries event

  abbrev answering : (e : Event) → commanded says old ≡ Some e → false ≡ is_none (next_line i old.entries) → Answering
  answering e made left =
      let here = a-line (next_line i old.entries) left in record {
        line = here.0;
        next = here.1;
        event = e;
        made = sym (ap (option_and_then (line_event says i old.entries)) here.1) ∙ made;
        entries = entries-so ∙ ap (λ o. option_map_or (with_block i 0 old.entries) o old.entries) made;
      }

  -- ---- a line that opens no run

  pub saying : s ≡ Said → (a : Answering) × (opens a.event ≡ false) × (asks_plan a.event ≡ false)
  saying is =
      let e = subst (IsStep says i old.entries) is c.answer in
      (answering e.0 e.1 (sym (ap is_end is) ∙ c.end), e.2, e.3)

  -- ---- a query for a plan

  pub planning : (acts : List Act) → s ≡ Planned acts → (a : Answering) × (a.event ≡ event.Ask query.Plan) × (says i.domain (know i old.entries) i.budget ≡ Plan acts)
  planning acts is =
      let e = subst (IsStep says i old.entries) is c.answer in
      (answering (event.Ask query.Plan) e.0 (sym (ap is_end is) ∙ c.end), refl, e.1)

  longer : (from : ℕ) → from ≡ length old.entries → (final : List Entry) → IsAnswered how says i old.entries final → from ≢ length final
  longer from same final a equal = by-since a.since a.grown where
    by-since : (since : List Entry) → final ≡ old.entries ++ since → ⊥
    by-since [] grown =
        let count : answered final ≡ answered old.entries = ap answered (grown ∙ append-nil old.entries) in
        let more = a.counted in omega (arith, count, more)
    by-since (e ∷ es) grown =
        let len : length final ≡ length old.entries + length (e ∷ es) = ap length grown ∙ length-append old.entries (e ∷ es) in
        omega (arith, len, same, equal)

  goes-on : (came : Advanced) (final : Shown) → came.from ≡ length old.entries → IsIdle i final → IsAnswered how says i old.entries final.entries
      → EachAfter (IsToldBy says i (acts_in came.plan)) old.entries (drop (length old.entries) final.entries) → Advances how says i old final came
  goes-on came final same still a told = record {
    idle = still;
    place = same;
    line = λ other. a;
    told = told;
    end = λ equal. absurd (longer came.from same final.entries a equal);
  }

  -- an event was said that opens no run
  said-by : (came : Advanced) → came.from ≡ length old.entries → IsHistory i old.entries → (a : Answering) → opens a.event ≡ false
      → IsToldBy says i (acts_in came.plan) old.entries a.event → Advances how says i old new came
  said-by came same history a shut told =
      let now : IsAnswered how says i old.entries new.entries =
      subst (IsAnswered how says i old.entries) (sym a.entries)
      (said-answered says i old.entries a.line history idle.closed a.next how a.event a.made shut) in
      let still : IsIdle i new = record {
        input = input-so;
        rest = rests;
        closed = ap is_running a.entries ∙ said-closed i old.entries a.event shut idle.closed;
      } in
      goes-on came new same still now (told-block says i (acts_in came.plan) old.entries a.event told new.entries a.entries)

  pub advances-said : (came : Advanced) → came.from ≡ length old.entries → IsHistory i old.entries → s ≡ Said → Advances how says i old new came
  advances-said came same history is =
      let a = saying is in said-by came same history a.0 a.1 (asks-none says i (acts_in came.plan) old.entries a.0.event a.2)

  pub advances-planned : (came : Advanced) (acts : List Act) → came.from ≡ length old.entries → IsHistory i old.entries → s ≡ Planned acts → came.plan ≡ Some acts
      → Advances how says i old new came
  advances-planned came acts same history is plan =
      let a = planning acts is in
      let told : IsToldBy says i (acts_in came.plan) old.entries (event.Ask query.Plan) = a.2 ∙ ap (λ o. Plan (acts_in o)) (sym plan) in
      said-by came same history a.0 (ap opens a.1) (subst (IsToldBy says i (acts_in came.plan) old.entries) (sym a.1) told)

  -- ---- a line that opens a run

  pub opening : s ≡ Opened → (a : Answering) × (opens a.event ≡ true)
  opening is =
      let e = subst (IsStep says i old.entries) is c.answer in
      (answering e.0 e.1 (sym (ap is_end is) ∙ c.end), e.2)

  opening-none : (plan : List Act) (e : Event) → opens e ≡ true → IsToldBy says i plan old.entries e
  opening-none plan (event.Ask q) h = absurd (true≢false (sym h))
  opening-none plan e h = tt

  pub now-running : s ≡ Opened → is_running new.entries ≡ true
  now-running is = let a = opening is in ap is_running a.0.entries ∙ run-opened i old.entries a.0.event a.1

  pub advances-run : (came : Advanced) (final : Shown) → came.from ≡ length old.entries → IsHistory i old.entries → s ≡ Opened
      → HasEnded how says new.input new.entries final.entries → IsAtRest final → final.input ≡ new.input
      → Advances how says i old final came
  advances-run came final same history is ends rest input =
      let a = opening is in
      let ended : HasEnded how says i (with_block i 0 old.entries a.0.event) final.entries =
      subst (λ es. HasEnded how says i es final.entries) a.0.entries (subst (λ j. HasEnded how says j new.entries final.entries) input-so ends) in
      let still : IsIdle i final = record { input = input ∙ input-so; rest = rest; closed = ends.over } in
      goes-on came final same still
      (run-answered says i old.entries a.0.line history idle.closed a.0.next how a.0.event final.entries a.0.made a.1 ended)
      (told-run says i (acts_in came.plan) old.entries a.0.event (opening-none (acts_in came.plan) a.0.event a.1) final.entries ended.grown)

  -- ---- no line

  pub advances-end : (came : Advanced) → came.from ≡ length old.entries → s ≡ End → Advances how says i old new came
  advances-end came same is =
      let none : next_line i old.entries ≡ None = no-line (next_line i old.entries) (sym (ap is_end is) ∙ c.end) in
      let undone : commanded says old ≡ None = ap (option_and_then (line_event says i old.entries)) none in
      let all : new ≡ old = c.did ∙ sym (nothing-appended 0 (commanded says old) old undone) in
      let entries : new.entries ≡ old.entries = ap (λ (b : Shown). b.entries) all in
      record {
        idle = subst (IsIdle i) (sym all) idle;
        place = same;
        line = λ other. absurd (other (same ∙ ap length (sym entries)));
        told = told-nothing says i (acts_in came.plan) old.entries new.entries entries;
        end = λ equal. (none, all);
      }

-- ---- calls

-- a call that answered something
pub commanded-so : {E : Type 0} → (says : Says) (old new : Shown) (r : Result Step E) (s : Step) → r ≡ Ok s → IfOk r (IsStep says old.input old.entries)
    → IfOk r (λ t. is_end t ≡ is_none (next_line old.input old.entries)) → OnOk r (Appended 0 (commanded says old) old new) → Commanded says old new s
commanded-so says old new r s is answer end did = record {
  answer = subst (λ x. IfOk x (IsStep says old.input old.entries)) is answer;
  end = subst (λ x. IfOk x (λ t. is_end t ≡ is_none (next_line old.input old.entries))) is end;
  did = subst (λ x. OnOk x (Appended 0 (commanded says old) old new)) is did;
}

-- workers went on with the run that a line opened
pub advances-worked : {E : Type 0} → (workers : ℕ) (says : Says) (old new : Shown) (s : Step) → Commanded says old new s → IsIdle old.input old → (r : Result Advanced E) (came : Advanced)
    (final : Shown) → came.from ≡ length old.entries → IsHistory old.input old.entries → s ≡ Opened → IfOk r (λ a. a ≡ came)
    → OnOk r (EndedBy workers new.input new.entries final.entries) → OnOk r (IsAtRest final) → final.input ≡ new.input
    → IfOk r (Advances (Workers workers) says old.input old final)
advances-worked workers says old new s c idle (Ok place) came final same history is at ended rest input =
    subst (Advances (Workers workers) says old.input old final) (sym at)
    (advances-run (Workers workers) says old new s c idle came final same history is
    (ended-by-workers workers says new.input new.entries final.entries ended) rest input)
advances-worked workers says old new s c idle (Err e) came final same history is at ended rest input = tt
