-- What a line of a trace says, by its words.
use Rattle.std.specs.Prelude.{◌≡◌, ℕ, ◌^◌, Bool, false, cond, ◌&&◌, ◌||◌, ◌==◌, nat_lt, List, [], ◌∷◌, map, length, replicate, codes, bytes_eq, Option, Some, None, option_map, Result, Ok, Err, ⊤}
use Rattle.std.specs.Borrow.{Bor}
use Rattle.std.specs.Iterator.{DrainsIf}
use Rattle.std.specs.Str.{all_ascii_digits}
use Rattle.std.specs.Str.Iter.{split_whitespace_rest, split_whitespace_steps}
use Rattle.std.specs.Str.Parse.{digits_value, without_leading_plus}
use Rattle.std.specs.declared.str.SplitWhitespace.{SplitWhitespace}
use Rattle.model.specs.Model.{insert, overwrite, replace, look1, look2, look12, remove1, remove2, remove12, retain, count}
use Rattle.traces.specs.Calls.{request_of}
use Rattle.traces.specs.Runs.{Request, made, shrink}
use Rattle.traces.specs.declared.Call.{Call}
use Rattle.worked_cases.specs.Pairs.{pair, first_of, second_of}
use Rattle.worked_cases.specs.declared.First.{First}
use Rattle.worked_cases.specs.declared.Pair.{Pair}
use Rattle.worked_cases.specs.declared.Second.{Second}
use Rattle.agree.specs.Totals.{at_least}
use Rattle.agree.specs.declared.calls.AtLeast.{AtLeast}
use Rattle.agree.specs.declared.reading.Form.{Form}
use Rattle.agree.specs.declared.reading.Form.TheVariants.{TwoKeys, OneKey, OnePlace, NoNumber, Name}
use Rattle.agree.specs.declared.reading.Line.{Line}
use Rattle.agree.specs.declared.reading.Line.TheVariants as line
use Rattle.agree.specs.declared.reading.ReadError.{ReadError}
use Rattle.agree.specs.declared.reading.ReadError.TheVariants as error

abbrev pub digits : List ℕ → List ℕ
digits word = without_leading_plus word

-- decimal digits, at least one, which a `+` may lead, and a number that fits so many bits
abbrev pub is_number : ℕ → List ℕ → Bool
is_number bits word = (nat_lt 0 (length (digits word)) && all_ascii_digits (digits word)) && nat_lt (digits_value 10 (digits word)) (2 ^ bits)

-- the number that a word writes
abbrev pub number : ℕ → List ℕ → Option ℕ
number bits word = cond (is_number bits word) (Some (digits_value 10 (digits word))) None

-- what is asked of a map
abbrev pub Asked : Type 0
Asked = Request Pair First Second

abbrev pub request_said : Call Pair First Second AtLeast → Asked
request_said c = request_of at_least c

-- by a name and a pair
abbrev pub pair_said : List ℕ → Pair → Option Asked
pair_said name p =
    cond (bytes_eq name (codes "insert")) (Some (made (insert p)))
    (cond (bytes_eq name (codes "overwrite")) (Some (made (overwrite p)))
    (cond (bytes_eq name (codes "replace")) (Some (made (replace p)))
    (cond (bytes_eq name (codes "get")) (Some (made (look12 (first_of p) (second_of p))))
    (cond (bytes_eq name (codes "remove")) (Some (made (remove12 (first_of p) (second_of p)))) None))))

-- by a name and a key
abbrev pub key_said : List ℕ → ℕ → Option Asked
key_said name k =
    cond (bytes_eq name (codes "get1")) (Some (made (look1 (record { number = k }))))
    (cond (bytes_eq name (codes "get2")) (Some (made (look2 (record { value = k }))))
    (cond (bytes_eq name (codes "remove1")) (Some (made (remove1 (record { number = k }))))
    (cond (bytes_eq name (codes "remove2")) (Some (made (remove2 (record { value = k }))))
    (cond (bytes_eq name (codes "retain")) (Some (made (retain (at_least (record { bound = k }))))) None))))

-- what a line of a name would have behind it
abbrev pub expected : List ℕ → Form
expected name =
    cond (bytes_eq name (codes "insert") || bytes_eq name (codes "overwrite") || bytes_eq name (codes "replace") || bytes_eq name (codes "get") || bytes_eq name (codes "remove")) TwoKeys
    (cond (bytes_eq name (codes "get1") || bytes_eq name (codes "get2") || bytes_eq name (codes "remove1") || bytes_eq name (codes "remove2") || bytes_eq name (codes "retain")) OneKey
    (cond (bytes_eq name (codes "shrink") || bytes_eq name (codes "capacity")) OnePlace
    (cond (bytes_eq name (codes "len")) NoNumber Name)))

abbrev pub form_text : Form → List ℕ
form_text TwoKeys = codes "two numbers up to 255"
form_text OneKey = codes "one number up to 255"
form_text OnePlace = codes "one number up to 65535"
form_text NoNumber = codes "no number"
form_text Name = codes "insert, overwrite, replace, get1, get2, get, remove1, remove2, remove, retain, shrink, len or capacity"

-- what a line says
pub data Said : Type 0 where
  blank : Said
  capacity : ℕ → Said
  asks : Asked → Said

abbrev pub said_of : Line → Said
said_of line.Blank = blank
said_of (line.Capacity n) = capacity n
said_of (line.Call c) = asks (request_said c)

-- with one word behind the name; a shrink brings a scratch of as many places, each 0
abbrev pub capacity_said : Option ℕ → Option Said
capacity_said n = option_map (λ m. capacity m) n

abbrev pub shrink_said : Option ℕ → Option Said
shrink_said n = option_map (λ m. asks (shrink (replicate m 0))) n

abbrev pub keyed_said : List ℕ → Option ℕ → Option Said
keyed_said name None = None
keyed_said name (Some k) = option_map (λ a. asks a) (key_said name k)

abbrev pub one_said : List ℕ → List ℕ → Option Said
one_said name word =
    cond (bytes_eq name (codes "capacity")) (capacity_said (number 16 word))
    (cond (bytes_eq name (codes "shrink")) (shrink_said (number 16 word)) (keyed_said name (number 8 word)))

-- with two
abbrev pub paired_said : List ℕ → Option ℕ → Option ℕ → Option Said
paired_said name None b = None
paired_said name (Some a) None = None
paired_said name (Some a) (Some b) = option_map (λ c. asks c) (pair_said name (pair a b))

abbrev pub two_said : List ℕ → List ℕ → List ℕ → Option Said
two_said name first second = paired_said name (number 8 first) (number 8 second)

-- by a name and the words behind it
abbrev pub named : List ℕ → List (List ℕ) → Option Said
named name [] = cond (bytes_eq name (codes "len")) (Some (asks (made count))) None
named name (w ∷ []) = one_said name w
named name (v ∷ w ∷ []) = two_said name v w
named name (u ∷ v ∷ w ∷ ws) = None

-- the words that three calls gave, up to the first that gave none
abbrev pub behind : Option (Bor (List ℕ)) → Option (Bor (List ℕ)) → Option (Bor (List ℕ)) → List (List ℕ)
behind None b c = []
behind (Some u) None c = u.now ∷ []
behind (Some u) (Some v) None = u.now ∷ v.now ∷ []
behind (Some u) (Some v) (Some w) = u.now ∷ v.now ∷ w.now ∷ []

-- what was said, or what was expected
abbrev pub or_expected : List ℕ → Option Said → Result Said Form
or_expected name (Some s) = Ok s
or_expected name None = Err (expected name)

-- the byte of `#`
abbrev pub hash : ℕ
hash = 35

abbrev pub is_remark : List ℕ → Bool
is_remark [] = false
is_remark (c ∷ cs) = c == hash

abbrev pub read_words : List (List ℕ) → Result Said Form
read_words [] = Ok blank
read_words (name ∷ ws) = cond (is_remark name) (Ok blank) (or_expected name (named name ws))

-- a `&[&str]`, and the bytes behind each `&str`
abbrev pub Words : Type 0
Words = List (Bor (List ℕ))

abbrev pub texts : Words → List (List ℕ)
texts words = map (λ w. w.now) words

-- a line was read so, unless there was no memory
abbrev pub Reads : Result Line ReadError → Result Said Form → Type 0
Reads (Ok l) s = Ok (said_of l) ≡ s
Reads (Err (error.Expected e)) s = Err e ≡ s
Reads (Err (error.OutOfMemory e)) s = ⊤

-- what `split_whitespace` gives for a line
abbrev pub IsWordsOf : List ℕ → Words → Type 0
IsWordsOf text words = (it : SplitWhitespace) × (split_whitespace_rest it ≡ text) × DrainsIf split_whitespace_steps ⊤ it words

-- the words of a line are read so
abbrev pub ReadsLine : List ℕ → Result Line ReadError → Type 0
ReadsLine text (Ok l) = (words : Words) × IsWordsOf text words × Reads (Ok l) (read_words (texts words))
ReadsLine text (Err (error.Expected e)) = (words : Words) × IsWordsOf text words × Reads (Err (error.Expected e)) (read_words (texts words))
ReadsLine text (Err (error.OutOfMemory e)) = ⊤
