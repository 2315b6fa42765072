-- What taking texts from an input promises. No contract says which bytes standard input gives; where it is known what
-- an input gives, the texts are said to be of these bytes.
use Rattle.std.specs.Prelude.{◌≡◌, ◌≢◌, ◌++◌, [], ◌∷◌, ℕ, ◌+◌, ◌-◌, ◌<◌, ◌≤◌, min, length, take, drop, get_or}
use Rattle.std.specs.Prelude.{Bool, true, false, List, All, Option, Some, None}
use Rattle.std.specs.Io.KnownBytes.{prepend_known, Keeps, Consumes, IsAtEnd}
use Rattle.stdin.specs.declared.parts.Parts.{Parts}

-- the bytes that have come and were not taken
abbrev pub at_hand : {R : Type 0} → Parts R → List ℕ
at_hand p = take (p.end - p.at) (drop p.at p.part.now)

-- what is left of an input, where that is known: those, and then what reads will give
abbrev pub left : {R : Type 0} → (R → Option (List ℕ)) → Parts R → Option (List ℕ)
left remaining p = prepend_known (at_hand p) (remaining p.input)

-- the part is the slice that was lent, as long as before
pub record KeepsPart {R : Type 0} (p q : Parts R) : Type 0 where
  pub same_part : q.part.ghost_name ≡ p.part.ghost_name
  pub long : length q.part.now ≡ length p.part.now

-- What is left is what there was. There is a byte to take, unless nothing is left. (Where a part has no room, nothing
-- can be read.)
pub record FillEnsures {R : Type 0} (remaining : R → Option (List ℕ)) (p q : Parts R) (filled : Bool) : Type 0 where
  pub kept : Keeps (left remaining p) (left remaining q)
  pub within : q.end ≤ length q.part.now
  pub some : filled ≡ true → q.at < q.end
  pub none : filled ≡ false → 0 < length p.part.now → IsAtEnd (left remaining q)

-- `len` is how many bytes a text has, or one more than fit into the slice where it has more. Those of one that fits
-- stand at its front.
pub record Holds (came text : List ℕ) (len : ℕ) : Type 0 where
  pub kept : len ≤ length text → take len text ≡ came
  pub count : len ≡ min (length came) (length text + 1)

-- these bytes more
pub record PutEnsures (bytes : List ℕ) (text : List ℕ) (len : ℕ) (text' : List ℕ) (len' : ℕ) : Type 0 where
  pub long : length text' ≡ length text
  pub on : (came : List ℕ) → Holds came text len → Holds (came ++ bytes) text' len'

-- the bytes before the first `end` were put, all of them where there is none
pub record BeforeEnsures (end : ℕ) (part text : List ℕ) (len : ℕ) (text' : List ℕ) (count len' : ℕ) : Type 0 where
  pub within : count ≤ length part
  pub before : All (λ b. b ≢ end) (take count part)
  pub puts : PutEnsures (take count part) text len text' len'
  pub ended : count < length part → get_or part count 0 ≡ end

-- The next text was taken, and the byte after it that ends it; or all that was left, which has no such byte.
abbrev pub TextTaken : ℕ → ℕ → Option (List ℕ) → Option (List ℕ) → List ℕ → List ℕ → Option ℕ → Type 0
TextTaken end room w w' came text (Some len) = Holds came text len × Consumes w w' (came ++ end ∷ [])
TextTaken end room w w' came text None =
    ((len : ℕ) × Holds came text len) × (Consumes w w' came × (0 < room → IsAtEnd w'))

pub record TakesText (end room : ℕ) (w w' : Option (List ℕ)) (text text' : List ℕ) (r : Option ℕ) : Type 0 where
  pub long : length text' ≡ length text
  pub came : List ℕ
  pub whole : All (λ b. b ≢ end) came
  pub taken : TextTaken end room w w' came text' r

-- A read has failed, or no part came to an end: so much was taken, which has no such byte.
pub record TextBegun (end : ℕ) (w w' : Option (List ℕ)) (text text' : List ℕ) : Type 0 where
  pub long : length text' ≡ length text
  pub came : List ℕ
  pub whole : All (λ b. b ≢ end) came
  pub consumes : Consumes w w' came

-- used by the proofs alone

-- so much of a text has come: it was taken, and stands at the front
pub record TextComes (end : ℕ) (w w' : Option (List ℕ)) (text text' : List ℕ) (len : ℕ) : Type 0 where
  pub long : length text' ≡ length text
  pub came : List ℕ
  pub whole : All (λ b. b ≢ end) came
  pub holds : Holds came text' len
  pub consumes : Consumes w w' came
