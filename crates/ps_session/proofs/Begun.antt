-- A session that was begun, line by line.
use Rattle.std.proofs.Common.{◌≡◌, ℕ, Bool, true, false, zero, suc, ◌+◌, ◌≤◌, if◌then◌else◌, Option, Some, None, List, [], ◌∷◌, ◌++◌, append_assoc, append-nil, drop, fold, length, slice_get, take, refl, ap, sym, ◌∙◌, subst, arith}
use Rattle.std.proofs.lemmas.Grind.{fold-append}
use Rattle.std.specs.Option.{option_map_or}
use Rattle.std.proofs.lemmas.List.Elements.{All-nil}
use Rattle.std.proofs.lemmas.List.{take-append-drop, take_more}
use Rattle.std.proofs.lemmas.Option.{get_or_from_slice_get, slice_get_within}
use Rattle.std.proofs.Math.Seq.{take-length}
use Rattle.ps_action.specs.Search.{answer}
use Rattle.ps_machine.specs.declared.inputs.Line.{Line}
use Rattle.ps_machine.specs.declared.inputs.Input.{Input}
use Rattle.ps_machine.specs.declared.journal.Event.{Event}
use Rattle.ps_machine.specs.declared.journal.Entry.{Entry}
use Rattle.ps_rules.specs.Choices.{after_line, line_event, ordered, Says, session_ordered, with_block, with_line}
use Rattle.ps_rules.specs.History.{forced, IsHistory, IsWhole}
use Rattle.ps_rules.specs.History.IsHistory.{nothing}
use Rattle.ps_rules.specs.Known.{know}
use Rattle.ps_rules.specs.Lines.{answered, due_lines, next_line}
use Rattle.ps_rules.specs.Runs.{is_running}
use Rattle.ps_pool.proofs.OwnTurns.{grown}
use Rattle.ps_replies.specs.Plans.{GivesLeast}
use Rattle.ps_session.specs.Lines.{EachAfter, EndsInOrder, GoesInOrder, IsAnswered, IsBegun, IsRunBy}
use Rattle.ps_session.specs.Session.{BeginsInOrder, BeginsJournal, hands_of, IsOrdered, opened, RunsAnswered}
use Rattle.ps_session.specs.declared.ways.Turns.{Turns}
use Rattle.ps_session.proofs.Each.{each-at, each-join}

-- nothing is answered
pub begun-start : (how : Turns) (says : Says) (i : Input) → IsBegun how says i []
begun-start how says i = record {
  few = omega arith;
  runs = tt;
  hands = All-nil (λ e. e.hand ≤ hands_of how);
  ordered = λ inOrder. record { turns = 0; all = λ n l. refl };
}

-- one line more is taken
take-line : (lines : List Line) (k : ℕ) (line : Line) → slice_get lines k ≡ Some line → take (k + 1) lines ≡ take k lines ++ line ∷ []
take-line lines k line h =
    take_more lines k line (slice_get_within lines k line h) ∙ ap (λ x. take k lines ++ x ∷ []) (get_or_from_slice_get lines k line line h)

module _ (how : Turns) (says : Says) (i : Input) where
  next-in-order : (old new : List Entry) (a : IsAnswered how says i old new) → GoesInOrder says i old → EndsInOrder says i a.line old new → GoesInOrder says i new
  next-in-order old new a b o =
      let due = due_lines i.lines in
      let first : ℕ → List Entry → List Line → List Entry = λ n es lines. fold (after_line says i n) es lines in record {
        turns = b.turns + o.turns;
        all = λ n l.
            o.all n (omega (arith, l)) ∙ ap (λ es. after_line says i n es a.line) (b.all n (omega (arith, l)))
            ∙ sym (fold-append (after_line says i n) [] (take (answered old) due) (a.line ∷ []))
            ∙ ap (first n []) (sym (take-line due (answered old) a.line a.next) ∙ ap (λ k. take k due) (sym a.counted));
      }

  -- one line more is answered
  pub begun-next : (old new : List Entry) → IsBegun how says i old → IsAnswered how says i old new → IsBegun how says i new
  begun-next old new b a = record {
    few = subst (λ k. k ≤ length (due_lines i.lines)) (sym a.counted) (omega (arith, slice_get_within (due_lines i.lines) (answered old) a.line a.next));
    runs = subst (EachAfter (IsRunBy says i) []) (sym a.grown) (each-join (IsRunBy says i) [] old a.since b.runs a.runs);
    hands = a.hands b.hands;
    ordered = λ inOrder. next-in-order old new a (b.ordered inOrder) (a.ordered inOrder);
  }

none-past : {A : Type 0} (xs : List A) (k : ℕ) → slice_get xs k ≡ None → length xs ≤ k
none-past [] k h = omega arith
none-past (x ∷ xs) zero h = absurd (cc)
none-past (x ∷ xs) (suc k) h = omega (arith, none-past xs k h)

-- all lines are answered
answered-all : (how : Turns) (says : Says) (i : Input) (es : List Entry) → IsBegun how says i es → next_line i es ≡ None
    → answered es ≡ length (due_lines i.lines)
answered-all how says i es b none = let past = none-past (due_lines i.lines) (answered es) none in omega (arith, past, b.few)

pub whole-of : (how : Turns) (says : Says) (i : Input) (es : List Entry) → IsBegun how says i es → next_line i es ≡ None → is_running es ≡ false → IsWhole i es
whole-of how says i es b none closed = record { lines = answered-all how says i es b none; closed = closed }

-- a solver that gives the least is the one of the definition
pub same-solver : (says : Says) → GivesLeast says → says ≡ answer
same-solver says gives = λ t. λ d k budget. gives d k budget t

pub ordered-of : (how : Turns) (says : Says) (i : Input) (es : List Entry) → GivesLeast says → IsBegun how says i es → GoesInOrder says i es
    → next_line i es ≡ None → IsOrdered i es
ordered-of how says i es gives b o none =
    let due = due_lines i.lines in record {
      turns = o.turns;
      all =
          o.all o.turns (omega arith)
          ∙ ap (λ k. fold (after_line says i o.turns) [] (take k due)) (answered-all how says i es b none)
          ∙ ap (fold (after_line says i o.turns) []) (take-length due)
          ∙ ap (λ s. session_ordered s i o.turns) (same-solver says gives);
    }

-- ---- where the journal in order begins with these entries

abbrev Grows : List Entry → List Entry → Type 0
Grows old new = (rest : List Entry) × (new ≡ old ++ rest)

grows-not : (es : List Entry) → Grows es es
grows-not es = ([], sym (append-nil es))

grows-then : (a b c : List Entry) → Grows a b → Grows b c → Grows a c
grows-then a b c p q = (p.0 ++ q.0, q.1 ∙ ap (λ xs. xs ++ q.0) p.1 ∙ append_assoc a p.0 q.0)

module _ (says : Says) (i : Input) (n : ℕ) where
  block-grows : (es : List Entry) (o : Option Event) → Grows es (option_map_or (with_block i 0 es) o es)
  block-grows es None = grows-not es
  block-grows es (Some e) = let entry : Entry = record { hand = 0; what = e } in (entry ∷ forced i es entry, refl)

  turns-grow : (es : List Entry) → Grows es (ordered says i es n)
  turns-grow es = let g = grown says i es n in (g.since, g.all)

  if-grows : (b : Bool) (es new : List Entry) → Grows es new → Grows es (if b then es else new)
  if-grows true es new g = grows-not es
  if-grows false es new g = g

  line-grows : (es : List Entry) (line : Line) → Grows es (after_line says i n es line)
  line-grows es line =
      let mid : List Entry = with_line says i es line in
      if-grows (is_running es) es (ordered says i mid n)
      (grows-then es mid (ordered says i mid n) (block-grows es (line_event says i es line)) (turns-grow mid))

  lines-grow : (es : List Entry) (lines : List Line) → Grows es (fold (after_line says i n) es lines)
  lines-grow es [] = grows-not es
  lines-grow es (line ∷ lines) =
      let mid : List Entry = after_line says i n es line in
      grows-then es mid (fold (after_line says i n) mid lines) (line-grows es line) (lines-grow mid lines)

begins-in-order : (says : Says) (i : Input) (es : List Entry) → GivesLeast says → GoesInOrder says i es → BeginsInOrder i es
begins-in-order says i es gives o =
    let due = due_lines i.lines in
    let k = answered es in
    let first : List Line → List Entry = fold (after_line says i o.turns) [] in
    let more = lines-grow says i o.turns es (drop k due) in record {
      turns = o.turns;
      rest = more.0;
      all =
          ap (λ s. session_ordered s i o.turns) (sym (same-solver says gives))
          ∙ ap first (sym (take-append-drop k due))
          ∙ fold-append (after_line says i o.turns) [] (take k due) (drop k due)
          ∙ ap (λ xs. fold (after_line says i o.turns) xs (drop k due)) (sym (o.all o.turns (omega arith)))
          ∙ more.1;
    }

-- ---- the runs for the goal

pub runs-answered : (says : Says) (i : Input) (es : List Entry) → GivesLeast says → EachAfter (IsRunBy says i) [] es → RunsAnswered i es
runs-answered says i es gives h before after hand plan is =
    sym (gives i.domain (know i before) i.budget)
    ∙ each-at (IsRunBy says i) [] before after (opened hand plan) (subst (EachAfter (IsRunBy says i) []) is h)

-- ---- what may begin a journal

pub beginning-of : (how : Turns) (says : Says) (i : Input) (es : List Entry) → GivesLeast says → IsBegun how says i es → IsHistory i es → is_running es ≡ false
    → BeginsJournal how i es
beginning-of how says i es gives b history closed = record {
  history = history;
  closed = closed;
  hands = b.hands;
  runs = runs-answered says i es gives b.runs;
  ordered = λ inOrder. begins-in-order says i es gives (b.ordered inOrder);
}

-- nothing was done yet
pub beginning-first : (how : Turns) (i : Input) → BeginsJournal how i []
beginning-first how i = beginning-of how answer i [] (λ d k budget. refl) (begun-start how answer i) nothing refl
