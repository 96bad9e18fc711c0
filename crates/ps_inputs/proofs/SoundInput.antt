-- The input that texts are read as is within the limits of a session.
use Rattle.std.proofs.Common.{◌≡◌, ℕ, ◌≤◌, Option, Some, None, List, [], ◌∷◌, All, filter_map, length, refl, sym, subst, arith}
use Rattle.std.proofs.lemmas.List.Elements.{All-nil, All-cons, All-append, All-head, All-tail}
use Rattle.ps_world.specs.Names.{Table}
use Rattle.ps_world.specs.declared.domains.Domain.{Domain}
use Rattle.ps_action.specs.declared.refusals.PlanTextRefusal.{PlanTextRefusal}
use Rattle.ps_machine.specs.declared.inputs.Input.{Input}
use Rattle.ps_machine.specs.declared.inputs.Line.{Line}
use Rattle.ps_machine.specs.declared.inputs.Line.TheVariants.{Good, Bad}
use Rattle.ps_machine.specs.declared.inputs.LineCause.TheVariants.{Nest}
use Rattle.ps_machine.specs.declared.inputs.Command.TheVariants.{RunPlan}
use Rattle.ps_machine.specs.declared.members.Member.{Member}
use Rattle.ps_machine.specs.declared.members.Member.TheVariants.{Performer, Observer}
use Rattle.ps_rules.specs.Members.{as_observer, as_performer}
use Rattle.ps_rules.specs.Sound.{IsSound, IsSoundLine, IsSoundObserver, IsSoundPerformer}
use Rattle.ps_plan.specs.PlanText.{plan_fault, planned, said_by}
use Rattle.ps_script.specs.Lines.{IsRead}
use Rattle.ps_script.specs.declared.reading.Read.{Read}
use Rattle.ps_script.specs.declared.reading.Read.TheVariants as read
use Rattle.ps_limit_laws.specs.Sound.{IsSoundMember}
use Rattle.ps_limit_laws.proofs.SoundLines.{lines_are_sound}
use Rattle.ps_limit_laws.proofs.ShortPlans.{plans_are_short}
use Rattle.ps_limit_laws.proofs.SoundMembers.{members_are_sound}
use Rattle.ps_inputs.specs.Flats.{Flattened}
use Rattle.ps_inputs.specs.Flats.Flattened.{plain, with_plan, too_deep}
use Rattle.ps_inputs.specs.Scripts.{Adds, IsScript, given_by, plan_in, unless_faulty}
use Rattle.ps_inputs.specs.Scripts.IsScript.{nothing, one_more}
use Rattle.ps_inputs.specs.Members.{AreMembers, NamedText}
use Rattle.ps_inputs.specs.Members.AreMembers.{nobody, one_more as one_member_more}
use Rattle.ps_inputs.specs.Input.{InputTexts, IsInput}
use Rattle.ps_inputs.proofs.Soundness.{few_members}
use Rattle.ps_inputs.proofs.Together.{names_differ}

-- ---- lines

-- one sound line
one_line : (line : Line) → IsSoundLine line → All IsSoundLine (line ∷ [])
one_line line sound = All-cons IsSoundLine line [] sound (All-nil IsSoundLine)

-- the plan that a text says, if it says one, is short
plan_sound : (table : Table) (text : List ℕ) (o : Option PlanTextRefusal) → plan_fault text ≡ o → IsSoundLine (Good (RunPlan (unless_faulty table text o).0))
plan_sound table text (Some fault) e = tt
plan_sound table text None e =
    plans_are_short table text (planned table [] (said_by text)).0 (planned table [] (said_by text)).1 (record { faultless = e; steps_are = refl })

-- what a line is read as gives sound lines, where the line for running a plan is sound
given_sound : (table after : Table) (bytes : List ℕ) (run : Line) → IsSoundLine run → (r : Read) → IsRead table bytes r after → All IsSoundLine (given_by run r)
given_sound table after bytes run sound read.Nothing is = All-nil IsSoundLine
given_sound table after bytes run sound (read.Line line) is = one_line line (lines_are_sound table bytes line after is)
given_sound table after bytes run sound (read.Source file) is = All-nil IsSoundLine
given_sound table after bytes run sound (read.RunPlan file) is = one_line run sound

-- what a command line adds is sound
added_sound : (table : Table) (one : Flattened) (new : List Line) (after : Table) → Adds table one new after → All IsSoundLine new
added_sound table (plain bytes) new after is = subst (All IsSoundLine) (sym is.2) (one_line is.0 (lines_are_sound table bytes is.0 after is.1))
added_sound table (with_plan bytes text) new after is =
    subst (All IsSoundLine) (sym is.3) (given_sound table is.1 bytes (Good (RunPlan (plan_in is.1 text).0)) (plan_sound is.1 text (plan_fault text) refl) is.0 is.2)
added_sound table too_deep new after is = subst (All IsSoundLine) (sym is.0) (one_line (Bad Nest) tt)

-- the lines of a script are sound
script_sound : (first : Table) (script : List Flattened) (lines : List Line) (after : Table) → IsScript first script lines after → All IsSoundLine lines
script_sound first _ _ _ nothing = All-nil IsSoundLine
script_sound first _ _ after (one_more before lines table one new _ are adds) =
    All-append IsSoundLine lines new (script_sound first before lines table are) (added_sound table one new after adds)

-- ---- members

-- the members that texts are read as are sound
each_sound : (d : Domain) (first : Table) (texts : List NamedText) (ms : List Member) (after : Table) → AreMembers d first texts ms after → All (IsSoundMember d) ms
each_sound d first _ _ _ nobody = All-nil (IsSoundMember d)
each_sound d first _ _ after (one_member_more before members table one m _ are is) =
    All-append (IsSoundMember d) members (m ∷ []) (each_sound d first before members table are)
    (All-cons (IsSoundMember d) m [] (members_are_sound d table one.text m after is) (All-nil (IsSoundMember d)))

module _ (d : Domain) where
  -- so are the performers among them
  performers_sound : (ms : List Member) → All (IsSoundMember d) ms → All (IsSoundPerformer d) (filter_map as_performer ms)
  performers_sound [] sound = All-nil (IsSoundPerformer d)
  performers_sound (Performer p ∷ ms) sound =
      All-cons (IsSoundPerformer d) p (filter_map as_performer ms) (All-head (IsSoundMember d) (Performer p) ms sound) (performers_sound ms (All-tail (IsSoundMember d) (Performer p) ms sound))
  performers_sound (Observer o ∷ ms) sound = performers_sound ms (All-tail (IsSoundMember d) (Observer o) ms sound)

  -- and the observers
  observers_sound : (ms : List Member) → All (IsSoundMember d) ms → All IsSoundObserver (filter_map as_observer ms)
  observers_sound [] sound = All-nil IsSoundObserver
  observers_sound (Performer p ∷ ms) sound = observers_sound ms (All-tail (IsSoundMember d) (Performer p) ms sound)
  observers_sound (Observer o ∷ ms) sound =
      All-cons IsSoundObserver o (filter_map as_observer ms) (All-head (IsSoundMember d) (Observer o) ms sound) (observers_sound ms (All-tail (IsSoundMember d) (Observer o) ms sound))

-- ---- inputs

-- an input that is read with few lines, and with limits in their ranges, is sound
pub input_sound : (budget replans : ℕ) (texts : InputTexts) (i : Input) (names : Table) → IsInput budget replans texts i names → length i.lines ≤ 10000 → 1 ≤ budget → budget ≤ 200000 → replans ≤ 8 → IsSound i
input_sound budget replans texts i names is few some bounded renewed =
    let together = few_members i.members is.few in
    let sound = each_sound i.domain is.named texts.members i.members names is.members in
    record {
      few_performers = together.0;
      few_observers = together.1;
      names_differ = names_differ i.members is.apart;
      each_performer = performers_sound i.domain i.members sound;
      each_observer = observers_sound i.domain i.members sound;
      few_lines = few;
      each_line = script_sound is.between texts.script i.lines is.named is.lines;
      some_budget = omega (arith, is.bounded, some);
      bounded_budget = omega (arith, is.bounded, bounded);
      few_replans = omega (arith, is.renewed, renewed);
    }
