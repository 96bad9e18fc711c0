-- Tokens of a text, one after another.
use Rattle.std.proofs.Common.{◌≡◌, ℕ, ◌≤◌, Bool, true, false, cond, List, [], ◌∷◌, ◌++◌, map, length, take, slice_range, Option, Some, None, Ok, Err, IsSome, All, refl, sym, ap, ◌∙◌, arith, append_assoc, append-nil}
use Rattle.std.proofs.lemmas.List.{map_push, take_all}
use Rattle.std.proofs.lemmas.List.Elements.{All-nil, All-cons, All-push}
use Rattle.std.proofs.lemmas.List.Quantifiers.{all_pairs_push}
use Rattle.std.proofs.lemmas.Slice.{between_from_start, between_to_end}
use Rattle.std.specs.List.{AllPairs}
use Rattle.std.specs.Option.{ok_or}
use Rattle.ps_text.specs.declared.lexing.Class.{Class}
use Rattle.ps_text.specs.declared.lexing.LexRefusal.{LexRefusal}
use Rattle.ps_text.specs.declared.lexing.LexRefusal.TheVariants.{Bad, Number}
use Rattle.ps_text.specs.declared.lexing.Token.{Token}
use Rattle.ps_text.specs.declared.spans.Span.{Span}
use Rattle.ps_text.specs.Words.{pieces, words}
use Rattle.ps_text.specs.Tokens.{class_of, class_at, fault_of_word, begins_number, span_of, IsGap, IsNextWord, IsWordAt, AreTokens, IsFirstFault, RefusesText}
use Rattle.ps_text.proofs.Cuts.{IsGap-join, words-gap}
use Rattle.ps_text.proofs.Pieces.{pieces_push}

-- the tokens so far are the words up to a place, however far the text goes on
pub record Lexed (bytes : List ℕ) (tokens : List Token) (from : ℕ) : Type 0 where
  pub place : from ≤ length bytes
  pub parts : (end : ℕ) → from ≤ end → words (take end bytes) ≡ pieces bytes (map span_of tokens) ++ words (slice_range bytes from end)
  pub classed : map class_of (pieces bytes (map span_of tokens)) ≡ map (λ t. Some t.class) tokens
  pub placed : All (λ t. IsWordAt bytes t.from t.to) tokens
  pub in_order : AllPairs (λ a b. a.to ≤ b.from) tokens
  pub ended : All (λ t. t.to ≤ from) tokens

pub Lexed-none : (bytes : List ℕ) → Lexed bytes [] 0
Lexed-none bytes =
    record {
      place = omega arith;
      parts = λ end h. ap words (sym (between_from_start bytes end));
      classed = refl;
      placed = All-nil (λ t. IsWordAt bytes t.from t.to);
      in_order = λ i j d h l. absurd (omega arith);
      ended = All-nil (λ t. t.to ≤ 0);
    }

-- a word that is the next one after a gap is the next one before it
pub IsNextWord-before : (bytes : List ℕ) (from at : ℕ) (s : Span) → from ≤ at → IsGap bytes from at → IsNextWord bytes at s → IsNextWord bytes from s
IsNextWord-before bytes from at s h gap next =
    let later = next.later in
    record { later = omega arith; longer = next.longer; within = next.within; gap = IsGap-join bytes from at s.from later gap next.gap; word = next.word }

module _ (bytes : List ℕ) (tokens : List Token) (from : ℕ) (s : Span) (lexed : Lexed bytes tokens from) (next : IsNextWord bytes from s) where
  abbrev before : List (List ℕ)
  before = pieces bytes (map span_of tokens)

  -- the words up to the next word are the tokens so far
  words-before : words (take s.from bytes) ≡ before
  words-before = lexed.parts s.from next.later ∙ ap (λ ws. before ++ ws) (words-gap bytes from s.from next.gap) ∙ append-nil before

  words-after : (end : ℕ) → s.to ≤ end → words (take end bytes) ≡ before ++ slice_range bytes s.from s.to ∷ words (slice_range bytes s.to end)
  words-after end h =
      let longer = next.longer in
      let later = next.later in
      lexed.parts end (omega arith) ∙ ap (λ ws. before ++ ws) (next.gap end (omega arith) ∙ next.word end h)

  pub IsWordAt-next : IsWordAt bytes s.from s.to
  IsWordAt-next =
      record {
        longer = next.longer;
        within = next.within;
        parts =
            ap words (sym (take_all (length bytes) bytes (omega arith)))
            ∙ words-after (length bytes) next.within
            ∙ ap (λ ws. ws ++ slice_range bytes s.from s.to ∷ words (slice_range bytes s.to (length bytes))) (sym words-before)
            ∙ ap (λ t. words (take s.from bytes) ++ slice_range bytes s.from s.to ∷ words t) (between_to_end bytes s.to (length bytes) (omega arith));
      }

  module _ (class : Class) (is : class_of (slice_range bytes s.from s.to) ≡ Some class) where
    abbrev token : Token
    token = record { class = class; from = s.from; to = s.to }

    pieces-more : pieces bytes (map span_of (tokens ++ token ∷ [])) ≡ before ++ slice_range bytes s.from s.to ∷ []
    pieces-more = ap (pieces bytes) (map_push span_of tokens token) ∙ pieces_push bytes (map span_of tokens) s

    pub Lexed-more : (more : List Token) → more ≡ tokens ++ token ∷ [] → Lexed bytes more s.to
    Lexed-more more e =
        let longer = next.longer in
        let later = next.later in
        rw e
        (record {
          place = next.within;
          parts = λ end h.
              words-after end h
              ∙ sym (append_assoc before (slice_range bytes s.from s.to ∷ []) (words (slice_range bytes s.to end)))
              ∙ ap (λ ws. ws ++ words (slice_range bytes s.to end)) (sym pieces-more);
          classed =
              ap (map class_of) pieces-more
              ∙ map_push class_of before (slice_range bytes s.from s.to)
              ∙ ap (λ cs. cs ++ class_of (slice_range bytes s.from s.to) ∷ []) lexed.classed
              ∙ ap (λ c. map (λ t. Some t.class) tokens ++ c ∷ []) is
              ∙ sym (map_push (λ t. Some t.class) tokens token);
          placed = All-push (λ t. IsWordAt bytes t.from t.to) tokens token lexed.placed IsWordAt-next;
          in_order = all_pairs_push (λ a b. a.to ≤ b.from) tokens token lexed.in_order (λ k d h. omega (arith, lexed.ended k d h));
          ended = All-push (λ t. t.to ≤ s.to) tokens token (λ k d h. omega (arith, lexed.ended k d h)) (omega arith);
        })

-- at the end the tokens are the words of the text
pub Lexed-all : (bytes : List ℕ) (tokens : List Token) (from : ℕ) → Lexed bytes tokens from → IsGap bytes from (length bytes) → AreTokens bytes tokens
Lexed-all bytes tokens from lexed gap =
    let whole : pieces bytes (map span_of tokens) ≡ words bytes = sym (
    ap words (sym (take_all (length bytes) bytes (omega arith)))
    ∙ lexed.parts (length bytes) lexed.place
    ∙ ap (λ ws. pieces bytes (map span_of tokens) ++ ws) (words-gap bytes from (length bytes) gap)
    ∙ append-nil (pieces bytes (map span_of tokens))
    ) in
    record {
      marked = whole;
      classed = ap (map class_of) (sym whole) ∙ lexed.classed;
      placed = lexed.placed;
      in_order = lexed.in_order;
    }

-- words that have the classes of tokens have classes
pub have_classes : (ws : List (List ℕ)) (ts : List Token) → map class_of ws ≡ map (λ t. Some t.class) ts → All (λ w. IsSome (class_of w)) ws
have_classes [] ts e = All-nil (λ w. IsSome (class_of w))
have_classes (w ∷ ws) [] e = absurd (cc)
have_classes (w ∷ ws) (t ∷ ts) e =
    let first : class_of w ≡ Some t.class = cc in
    let rest : map class_of ws ≡ map (λ t. Some t.class) ts = cc in
    All-cons (λ w. IsSome (class_of w)) w ws (rw first refl) (have_classes ws ts rest)

pub IsFirstFault-next : (bytes : List ℕ) (tokens : List Token) (from : ℕ) (s : Span) → Lexed bytes tokens from → IsNextWord bytes from s → (fault : LexRefusal) → class_at s.from (slice_range bytes s.from s.to) ≡ Err fault → IsFirstFault bytes s.from fault
IsFirstFault-next bytes tokens from s lexed next fault e =
    record {
      to = s.to;
      placed = IsWordAt-next bytes tokens from s lexed next;
      before = rw (words-before bytes tokens from s lexed next) (have_classes (pieces bytes (map span_of tokens)) tokens lexed.classed);
      fault_is = e;
    }

-- ---- a word with a class, and one without

found_of : {A E : Type 0} (o : Option A) (e : E) (x : A) → ok_or o e ≡ Ok x → o ≡ Some x
found_of None e x h = absurd (cc)
found_of (Some y) e x h = cc

missed_of : {A E : Type 0} (o : Option A) (e x : E) → ok_or o e ≡ Err x → x ≡ e
missed_of None e x h = cc
missed_of (Some y) e x h = absurd (cc)

pub class_of-found : (at : ℕ) (word : List ℕ) (class : Class) → class_at at word ≡ Ok class → class_of word ≡ Some class
class_of-found at word class h = found_of (class_of word) (fault_of_word at word) class h

refuses_by : (bytes : List ℕ) (at : ℕ) (b : Bool) (fault : LexRefusal) → fault ≡ cond b (Number at) (Bad at) → IsFirstFault bytes at fault → RefusesText fault bytes
refuses_by bytes at true fault e h = rw e (rw e at h)
refuses_by bytes at false fault e h = rw e (rw e at h)

pub RefusesText-from : (bytes : List ℕ) (at : ℕ) (word : List ℕ) (fault : LexRefusal) → class_at at word ≡ Err fault → IsFirstFault bytes at fault → RefusesText fault bytes
RefusesText-from bytes at word fault e h = refuses_by bytes at (begins_number word) fault (missed_of (class_of word) (fault_of_word at word) fault e) h
