-- What an editor holds stays suited to the domain, and runs that grow line by line with their texts.
use Rattle.std.proofs.Common.{◌≡◌, ℕ, zero, suc, ◌+◌, ◌<◌, inl, inr, Bool, true, false, ◌||◌, if◌then◌else◌, Option, Some, None, Result, Ok, Err, List, [], ◌∷◌, ◌++◌, length, take, get_or, refl, sym, ap, ◌∙◌, subst, append_assoc, append-nil, arith}
use Rattle.std.proofs.KnownBytes.{Appends-nil, Appends-trans}
use Rattle.std.proofs.Math.Seq.{take-append-add, take-length}
use Rattle.std.proofs.lemmas.Grind.{flat_map-append}
use Rattle.std.proofs.lemmas.List.{length-take-le, take_all, take_more}
use Rattle.std.proofs.lemmas.List.Folds.{list_any-append}
use Rattle.std.specs.Io.KnownBytes.{Appends}
use Rattle.std.specs.List.{flat_map, list_any}
use Rattle.ps_world.specs.Knowledge.{opening}
use Rattle.ps_world.specs.Names.{Table}
use Rattle.ps_world.specs.declared.domains.Domain.{Domain}
use Rattle.ps_world.specs.declared.known.Knowledge.{Knowledge}
use Rattle.ps_world.specs.declared.edits.Edit.{Edit}
use Rattle.ps_machine.specs.declared.inputs.Command.TheVariants as command
use Rattle.ps_machine.specs.declared.inputs.Line.{Line}
use Rattle.ps_machine.specs.declared.inputs.Line.TheVariants.{Good, Bad}
use Rattle.ps_machine.specs.declared.journal.Refusal.TheVariants as refusal
use Rattle.ps_text.specs.Outside.{AppendsPrefix, Counts, CountsWork, Puts, SinkView, next}
use Rattle.ps_text.specs.declared.sinks.SinkRefusal.{SinkRefusal}
use Rattle.ps_text.specs.declared.sinks.SinkRefusal.TheVariants as sink
use Rattle.ps_edit_words.specs.declared.words.EditWord.{EditWord}
use Rattle.ps_edit_words.specs.declared.words.EditWord.TheVariants as word
use Rattle.ps_problem.specs.WellKnown.{HasConstants}
use Rattle.ps_problem.proofs.WellKnown.{edits_keep_well_known}
use Rattle.ps_undo.specs.Editing.{begun}
use Rattle.ps_undo.specs.Laws.{IsSuited}
use Rattle.ps_undo.proofs.Suited.{editors_stay_suited}
use Rattle.ps_undo.specs.declared.editing.Editing.{Editing}
use Rattle.ps_editing.specs.Lines.{Answers, AnswersEdit, AnswersLine, AnswersRedo, AnswersSave, AnswersUndo, AnswersWord, EditLine, is_refused, with_more, worded}
use Rattle.ps_editing.specs.Parts.{WritesAnswer, WritesLine}
use Rattle.ps_editing.specs.Runs.{IsRun, Stage, WritesRun, run_text, stage_text}
use Rattle.ps_editing.specs.Runs.IsRun.{nothing, one_more}
use Rattle.ps_editing.specs.Texts.{line_text, title}
use Rattle.ps_editing.specs.declared.answers.Answer.{Answer}
use Rattle.ps_editing.specs.declared.answers.Answer.TheVariants.{Made, Undone, Redone, Saved, Refused}
use Rattle.ps_editing.specs.declared.answers.Why.TheVariants.{Known, NothingToUndo, NothingToRedo}

-- ---- what is held stays suited

module _ (d : Domain) where
  same_suited : (old new : Editing) → new ≡ old → IsSuited d old → IsSuited d new
  same_suited old new e h = subst (IsSuited d) (sym e) h

  undo_suited : (old new : Editing) (a : Answer) → IsSuited d old → AnswersUndo old a new → IsSuited d new
  undo_suited old new (Undone x) h is = editors_stay_suited.undo d old new x is h
  undo_suited old new (Refused NothingToUndo) h is = same_suited old new is.1 h
  undo_suited old new a h is = absurd is

  redo_suited : (old new : Editing) (a : Answer) → IsSuited d old → AnswersRedo old a new → IsSuited d new
  redo_suited old new (Redone x) h is = editors_stay_suited.redo d old new x is h
  redo_suited old new (Refused NothingToRedo) h is = same_suited old new is.1 h
  redo_suited old new a h is = absurd is

  edit_suited : (x : Edit) (old new : Editing) (a : Answer) → IsSuited d old → AnswersEdit d x old a new → IsSuited d new
  edit_suited x old new (Made y) h is = editors_stay_suited.edit d x old (Ok is.1) new is.2 h
  edit_suited x old new (Refused (Known (refusal.Edit why))) h is = same_suited old new is.1 h
  edit_suited x old new a h is = absurd is

  line_suited : (line : Line) (old new : Editing) (a : Answer) → IsSuited d old → AnswersLine d line old a new → IsSuited d new
  line_suited (Good (command.Edit x)) old new a h is = edit_suited x old new a h is
  line_suited (Good (command.Ask q)) old new a h is = same_suited old new is.1 h
  line_suited (Good command.Run) old new a h is = same_suited old new is.1 h
  line_suited (Good (command.RunAction act)) old new a h is = same_suited old new is.1 h
  line_suited (Good (command.RunPlan steps)) old new a h is = same_suited old new is.1 h
  line_suited (Good command.Quit) old new a h is = same_suited old new is.1 h
  line_suited (Bad cause) old new a h is = same_suited old new is.1 h

  save_suited : (names : Table) (old new : Editing) (a : Answer) → IsSuited d old → AnswersSave names d old a new → IsSuited d new
  save_suited names old new (Saved edits) h is = same_suited old new is.1 h
  save_suited names old new a h is = absurd is

  word_suited : (names : Table) (line : Line) (w : Option EditWord) (old new : Editing) (a : Answer) → IsSuited d old → AnswersWord names d line w old a new → IsSuited d new
  word_suited names line (Some word.Undo) old new a h is = undo_suited old new a h is
  word_suited names line (Some word.Redo) old new a h is = redo_suited old new a h is
  word_suited names line (Some word.Save) old new a h is = save_suited names old new a h is
  word_suited names line (Some (word.More at)) old new a h is = line_suited (with_more at line) old new a h is
  word_suited names line None old new a h is = line_suited line old new a h is

  answered_suited : (names : Table) (line : EditLine) (old new : Editing) (a : Answer) → IsSuited d old → Answers names d line old a new → IsSuited d new
  answered_suited names line old new a h is = word_suited names line.0 line.1 old new a h is

  begun_suited : HasConstants d → IsSuited d (begun (opening d))
  begun_suited h = editors_stay_suited.begin d (opening d) (edits_keep_well_known.first d h)

-- ---- lines with their words

-- there are as many
pub length-worded : (lines : List Line) (words : List (Option EditWord)) → length (worded lines words) ≡ length lines
length-worded [] words = refl
length-worded (line ∷ lines) [] = ap suc (length-worded lines [])
length-worded (line ∷ lines) (w ∷ words) = ap suc (length-worded lines words)

-- the one at a place
worded-at : (lines : List Line) (words : List (Option EditWord)) (i : ℕ) (e : EditLine) (l : Line) → i < length lines → get_or (worded lines words) i e ≡ (get_or lines i l, get_or words i None)
worded-at [] words i e l lt = absurd (omega arith)
worded-at (line ∷ lines) [] zero e l lt = refl
worded-at (line ∷ lines) (w ∷ words) zero e l lt = refl
worded-at (line ∷ lines) [] (suc i) e l lt = worded-at lines [] i e l (omega arith)
worded-at (line ∷ lines) (w ∷ words) (suc i) e l lt = worded-at lines words i e l (omega arith)

-- ---- one line

module _ (d : Domain) (names : Table) (n : ℕ) (a : Answer) (k : Knowledge) where
  -- memory ran out before there was a text
  pub answer_starved : (s : SinkView) → WritesAnswer d names n a k s s (Err sink.OutOfMemory)
  answer_starved s = record { done = tt; cut = (0, Appends-nil s.bytes); counted = refl }

  module _ (text : List ℕ) (is : text ≡ line_text names d n a k) (old now : SinkView) where
    -- the text is written
    pub answer_written : (refused : Bool) → refused ≡ is_refused a → Puts text old now (Ok tt) → WritesAnswer d names n a k old now (Ok refused)
    answer_written refused e put = record { done = (e, subst (Appends old.bytes now.bytes) is put.whole); cut = tt; counted = put.counted }

    -- its write was refused
    pub answer_cut : (why : SinkRefusal) → Puts text old now (Err why) → WritesAnswer d names n a k old now (Err why)
    answer_cut why put = record {
      done = tt;
      cut = subst (AppendsPrefix old.bytes now.bytes) is put.prefix;
      counted = cut_work why put.counted;
    } where
      cut_work : (r : SinkRefusal) → Counts {A = Unit {0}} old now (Err r) → CountsWork {A = Bool} old now (Err r)
      cut_work sink.Failed h = h
      cut_work sink.OutOfMemory h = h.0

module _ (d : Domain) (names : Table) (n : ℕ) (line : EditLine) (held new_held : Editing) where
  -- memory ran out before the line was answered
  pub line_starved : (s : SinkView) → WritesLine d names n line held new_held s s (Err sink.OutOfMemory)
  line_starved s = record { done = tt; cut = inr refl; counted = refl }

  -- the answer's text is written, or a prefix of it
  pub line_answered : (a : Answer) (k : Knowledge) (old now : SinkView) (r : Result Bool SinkRefusal) → Answers names d line held a new_held → k ≡ new_held.now
      → WritesAnswer d names n a k old now r → WritesLine d names n line held new_held old now r
  line_answered a k old now r answers same put = by_answer r (subst (λ (x : Knowledge). WritesAnswer d names n a x old now r) same put) where
    by_answer : (r : Result Bool SinkRefusal) → WritesAnswer d names n a new_held.now old now r → WritesLine d names n line held new_held old now r
    by_answer (Ok refused) w = record { done = record { answer = a; answers = answers; refuses = w.done.0; written = w.done.1 }; cut = tt; counted = w.counted }
    by_answer (Err why) w = record { done = tt; cut = inl (record { answer = a; answers = answers; written = w.cut }); counted = w.counted }

-- ---- what is written

-- A run of the first lines is written, and what is held suits the domain.
pub record IsWritten (d : Domain) (names : Table) (lines : List EditLine) (i : ℕ) (held : Editing) (refused : Bool) (old now : SinkView) : Type 0 where
  pub stages : List Stage
  pub run : IsRun names d (take i lines) stages held
  pub suited : IsSuited d held
  pub refuses : refused ≡ list_any (λ s. is_refused s.answer) stages
  pub text : Appends old.bytes now.bytes (run_text names d stages)
  pub failures : now.failed ≡ old.failed
  pub refusals : now.refused ≡ old.refused

module _ (d : Domain) (names : Table) (lines : List EditLine) where
  -- the text of a run grows by that of a stage
  text_more : (stages : List Stage) (s : Stage) → run_text names d (stages ++ s ∷ []) ≡ run_text names d stages ++ stage_text names d s
  text_more stages s =
      let one : flat_map (stage_text names d) (s ∷ []) ≡ stage_text names d s = append-nil (stage_text names d s) in
      ap (λ t. title ++ t) (flat_map-append (stage_text names d) stages (s ∷ []) ∙ ap (λ t. flat_map (stage_text names d) stages ++ t) one)
      ∙ sym (append_assoc title (flat_map (stage_text names d) stages) (stage_text names d s))

  -- the title is written
  pub written_first : (held : Editing) (old now : SinkView) (text : List ℕ) → HasConstants d → held ≡ begun (opening d) → text ≡ title → Puts text old now (Ok tt) → IsWritten d names lines 0 held false old now
  written_first held old now text h is e put = subst (λ (k : Editing). IsWritten d names lines 0 k false old now) (sym is) (record {
    stages = [];
    run = nothing;
    suited = begun_suited d h;
    refuses = refl;
    text = subst (Appends old.bytes now.bytes) (e ∙ sym (append-nil title)) put.whole;
    failures = put.counted.0;
    refusals = put.counted.1;
  })

  -- it isn't, or just in part
  pub cut_first : (old now : SinkView) (text : List ℕ) (why : SinkRefusal) → text ≡ title → Puts text old now (Err why) → WritesRun d names lines old now (Err why)
  cut_first old now text why e put = record {
    done = tt;
    cut = record {
      count = 0;
      stages = [];
      last = begun (opening d);
      run = nothing;
      written = subst (AppendsPrefix old.bytes now.bytes) (e ∙ sym (append-nil title)) put.prefix;
    };
    counted = refused_work old old now why refl refl put.counted;
  } where
    refused_work : (a b c : SinkView) (w : SinkRefusal) → b.failed ≡ a.failed → b.refused ≡ a.refused → Counts {A = Unit {0}} b c (Err w) → CountsWork {A = ℕ} a c (Err w)
    refused_work a b c sink.Failed f r h = (h.0 ∙ ap next f, h.1 ∙ ap next r)
    refused_work a b c sink.OutOfMemory f r h = h.0 ∙ f

  -- memory ran out before anything was written
  pub cut_before : (s : SinkView) → WritesRun d names lines s s (Err sink.OutOfMemory)
  cut_before s = record {
    done = tt;
    cut = record { count = 0; stages = []; last = begun (opening d); run = nothing; written = (0, Appends-nil s.bytes) };
    counted = refl;
  }

  module _ (i : ℕ) (held new_held : Editing) (refused : Bool) (old before now : SinkView) (line : EditLine) (lt : i < length lines) (is : line ≡ get_or lines i line) (w : IsWritten d names lines i held refused old before) where
    here : take (i + 1) lines ≡ take i lines ++ line ∷ []
    here = take_more lines i line lt ∙ ap (λ (x : EditLine). take i lines ++ x ∷ []) (sym is)

    numbered : suc (length (take i lines)) ≡ i + 1
    numbered = omega (arith, length-take-le i lines (omega arith))

    stage_of : Answer → Stage
    stage_of a = record { number = suc (length (take i lines)); answer = a; held = new_held }

    run_on : (a : Answer) → Answers names d line held a new_held → IsRun names d (take (i + 1) lines) (w.stages ++ stage_of a ∷ []) new_held
    unfolding stage_of
    run_on a answers = subst (λ (ls : List EditLine). IsRun names d ls (w.stages ++ stage_of a ∷ []) new_held) (sym here) (one_more (take i lines) w.stages held line a new_held w.run answers)

    text_on : (a : Answer) → run_text names d (w.stages ++ stage_of a ∷ []) ≡ run_text names d w.stages ++ line_text names d (i + 1) a new_held.now
    unfolding stage_of
    text_on a = text_more w.stages (stage_of a) ∙ ap (λ (n : ℕ). run_text names d w.stages ++ line_text names d n a new_held.now) numbered

    -- a line more is written
    pub written_on : (b : Bool) → WritesLine d names (i + 1) line held new_held before now (Ok b) → IsWritten d names lines (i + 1) new_held (refused || b) old now
    unfolding stage_of
    written_on b put =
        let done = put.done in
        record {
          stages = w.stages ++ stage_of done.answer ∷ [];
          run = run_on done.answer done.answers;
          suited = answered_suited d names line held new_held done.answer w.suited done.answers;
          refuses = two w.refuses done.refuses ∙ sym (list_any-append (λ (s : Stage). is_refused s.answer) w.stages (stage_of done.answer ∷ []));
          text = subst (Appends old.bytes now.bytes) (sym (text_on done.answer))
              (Appends-trans old.bytes before.bytes now.bytes (run_text names d w.stages) (line_text names d (i + 1) done.answer new_held.now) w.text done.written);
          failures = put.counted.0 ∙ w.failures;
          refusals = put.counted.1 ∙ w.refusals;
        } where
          two : {p q : Bool} → refused ≡ p → b ≡ q → (refused || b) ≡ (p || (q || false))
          two {q = false} e f = λ j. e j || f j
          two {q = true} e f = λ j. e j || f j

    -- it is cut off
    pub cut_on : (why : SinkRefusal) → WritesLine d names (i + 1) line held new_held before now (Err why) → WritesRun d names lines old now (Err why)
    unfolding stage_of
    cut_on why put = record {
      done = tt;
      cut = elim put.cut [
        | inl part ↦
            record {
              count = i + 1;
              stages = w.stages ++ stage_of part.answer ∷ [];
              last = new_held;
              run = run_on part.answer part.answers;
              written = subst (AppendsPrefix old.bytes now.bytes) (sym (text_on part.answer))
                  (prefix_after (run_text names d w.stages) (line_text names d (i + 1) part.answer new_held.now) w.text part.written);
            }
        | inr same ↦
            record {
              count = i;
              stages = w.stages;
              last = held;
              run = w.run;
              written = (
                length (run_text names d w.stages),
                subst (Appends old.bytes now.bytes) (sym (take-length (run_text names d w.stages)))
                    (subst (λ (bytes : Option (List ℕ)). Appends old.bytes bytes (run_text names d w.stages)) (sym same) w.text),
              );
            }
      ];
      counted = work_after why put.counted;
    } where
      prefix_after : (xs ys : List ℕ) → Appends old.bytes before.bytes xs → AppendsPrefix before.bytes now.bytes ys → AppendsPrefix old.bytes now.bytes (xs ++ ys)
      prefix_after xs ys p q = (length xs + q.0, subst (Appends old.bytes now.bytes) (sym (take-append-add xs ys q.0)) (Appends-trans old.bytes before.bytes now.bytes xs (take q.0 ys) p q.1))

      work_after : (r : SinkRefusal) → CountsWork {A = Bool} before now (Err r) → CountsWork {A = ℕ} old now (Err r)
      work_after sink.Failed h = (h.0 ∙ ap next w.failures, h.1 ∙ ap next w.refusals)
      work_after sink.OutOfMemory h = h ∙ w.failures

  -- all lines are written
  pub written_all : (i : ℕ) (held : Editing) (refused : Bool) (old now : SinkView) (status : ℕ) → i ≡ length lines → status ≡ (if refused then 1 else 0) → IsWritten d names lines i held refused old now → WritesRun d names lines old now (Ok status)
  written_all i held refused old now status all e w = record {
    done = record {
      stages = w.stages;
      last = held;
      run = subst (λ (ls : List EditLine). IsRun names d ls w.stages held) (take_all i lines (omega (arith, all))) w.run;
      is_status = e ∙ ap (λ (b : Bool). if b then 1 else 0) w.refuses;
      written = w.text;
    };
    cut = tt;
    counted = (w.failures, w.refusals);
  }

-- ---- a line of the loop

module _ (d : Domain) (names : Table) (all : List Line) (words : List (Option EditWord)) (i : ℕ) (held new_held : Editing) (refused : Bool) (old before now : SinkView) (l : Line) (w : Option EditWord) (lt : i < length all) (is : l ≡ get_or all i l) (is_word : w ≡ get_or words i None) (so_far : IsWritten d names (worded all words) i held refused old before) where
  lt_worded : i < length (worded all words)
  lt_worded = omega (arith, length-worded all words, lt)

  line_here : (l, w) ≡ get_or (worded all words) i (l, w)
  line_here = (λ j. (is j, is_word j)) ∙ sym (worded-at all words i (l, w) l lt)

  -- it is written
  pub written_line : (b : Bool) → WritesLine d names (i + 1) (l, w) held new_held before now (Ok b) → IsWritten d names (worded all words) (i + 1) new_held (refused || b) old now
  written_line b put = written_on d names (worded all words) i held new_held refused old before now (l, w) lt_worded line_here so_far b put

  -- it is cut off
  pub cut_line : (why : SinkRefusal) → WritesLine d names (i + 1) (l, w) held new_held before now (Err why) → WritesRun d names (worded all words) old now (Err why)
  cut_line why put = cut_on d names (worded all words) i held new_held refused old before now (l, w) lt_worded line_here so_far why put
