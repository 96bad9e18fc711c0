-- The names within tokens.
use Rattle.std.proofs.Common.{◌≡◌, ℕ, zero, suc, ◌<◌, ◌≤◌, Bool, true, false, if◌then◌else◌, List, [], ◌∷◌, map, length, drop, slice_range, slice_index_or, Option, None, Some, All, refl, ◌∙◌, ap, arith, codes, is_ok}
use Rattle.std.proofs.lemmas.Bool.{and_parts}
use Rattle.ps_world.specs.Lines.{same_text}
use Rattle.ps_text.specs.Decimals.{number_of}
use Rattle.ps_text.specs.Names.{is_name}
use Rattle.ps_text.specs.Tokens.{AreTokens, begins_number, class_of, is_marked, is_sign, span_of}
use Rattle.ps_text.specs.Words.{pieces}
use Rattle.ps_text.specs.declared.lexing.Class.{Class}
use Rattle.ps_text.specs.declared.lexing.Class.TheVariants as class
use Rattle.ps_text.specs.declared.lexing.Token.{Token}
use Rattle.ps_lists.specs.Lexemes.{IsTokenOf}

-- the first class that fits, by what is tested
abbrev pub first_class : (left right sign variable keyword begins number continuous name : Bool) → Option Class
first_class left right sign variable keyword begins number continuous name =
    if left then Some class.LeftParen
    else (if right then Some class.RightParen
    else (if sign then Some class.Sign
    else (if variable then Some class.Variable
    else (if keyword then Some class.Keyword
    else (if begins then (if number then Some class.Number else None)
    else (if continuous then Some class.Continuous
    else (if name then Some class.Name else None)))))))

variable_of : (o c s v k b n t m : Bool) → first_class o c s v k b n t m ≡ Some class.Variable → v ≡ true
variable_of true c s v k b n t m e = absurd (cc)
variable_of false true s v k b n t m e = absurd (cc)
variable_of false false true v k b n t m e = absurd (cc)
variable_of false false false true k b n t m e = refl
variable_of false false false false true b n t m e = absurd (cc)
variable_of false false false false false true true t m e = absurd (cc)
variable_of false false false false false true false t m e = absurd (cc)
variable_of false false false false false false n true m e = absurd (cc)
variable_of false false false false false false n false true e = absurd (cc)
variable_of false false false false false false n false false e = absurd (cc)

name_of : (o c s v k b n t m : Bool) → first_class o c s v k b n t m ≡ Some class.Name → m ≡ true
name_of true c s v k b n t m e = absurd (cc)
name_of false true s v k b n t m e = absurd (cc)
name_of false false true v k b n t m e = absurd (cc)
name_of false false false true k b n t m e = absurd (cc)
name_of false false false false true b n t m e = absurd (cc)
name_of false false false false false true true t m e = absurd (cc)
name_of false false false false false true false t m e = absurd (cc)
name_of false false false false false false n true m e = absurd (cc)
name_of false false false false false false n false true e = refl
name_of false false false false false false n false false e = absurd (cc)

pub is_name-class : (word : List ℕ) → class_of word ≡ Some class.Name → is_name word ≡ true
is_name-class word = name_of (same_text word (codes "(")) (same_text word (codes ")")) (is_sign word) (is_marked 63 word) (is_marked 58 word) (begins_number word) (is_ok (number_of word)) (same_text word (codes "#t")) (is_name word)

pub is_marked-class : (word : List ℕ) → class_of word ≡ Some class.Variable → is_marked 63 word ≡ true
is_marked-class word = variable_of (same_text word (codes "(")) (same_text word (codes ")")) (is_sign word) (is_marked 63 word) (is_marked 58 word) (begins_number word) (is_ok (number_of word)) (same_text word (codes "#t")) (is_name word)

pub marked-is_name : (word : List ℕ) → is_marked 63 word ≡ true → is_name (drop 1 word) ≡ true
marked-is_name [] h = absurd (cc)
marked-is_name (b ∷ bs) h = (and_parts _ _ h).1

pub is_name-variable : (word : List ℕ) → class_of word ≡ Some class.Variable → is_name (drop 1 word) ≡ true
is_name-variable word e = marked-is_name word (is_marked-class word e)

nonempty-marked : (word : List ℕ) → is_marked 63 word ≡ true → 1 ≤ length word
nonempty-marked [] h = absurd (cc)
nonempty-marked (b ∷ bs) h = omega arith

-- a variable has its `?`
pub length-variable : (word : List ℕ) → class_of word ≡ Some class.Variable → 1 ≤ length word
length-variable word e = nonempty-marked word (is_marked-class word e)

-- each token has the class of its piece
classed : (bytes : List ℕ) (tokens : List Token) → map class_of (pieces bytes (map span_of tokens)) ≡ map (λ t. Some t.class) tokens → (k : ℕ) (d : Token) → k < length tokens → class_of (slice_range bytes (slice_index_or tokens k d).from (slice_index_or tokens k d).to) ≡ Some (slice_index_or tokens k d).class
classed bytes [] e k d lt = absurd (omega (arith, lt))
classed bytes (t ∷ ts) e zero d lt = cc
classed bytes (t ∷ ts) e (suc k) d lt = classed bytes ts (cc) k d (omega (arith, lt))

pub are_tokens_of : (bytes : List ℕ) (tokens : List Token) → AreTokens bytes tokens → All (IsTokenOf bytes) tokens
are_tokens_of bytes tokens are = λ k d lt.
    let placed = are.placed k d lt in
    record {
      order = omega (arith, placed.longer);
      within = placed.within;
      class = classed bytes tokens (ap (map class_of) are.marked ∙ are.classed) k d lt;
    }
