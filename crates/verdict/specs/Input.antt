-- What reading an input into one buffer promises. Which bytes a read of standard input brings no contract can say; that
-- these are kept, all and in order, is said, and where it is known what an input gives, that they are what it gave.
use Rattle.std.specs.Prelude.{◌≡◌, ◌++◌, ℕ, suc, ◌+◌, min, length, take, ⊤, Option, Result, Ok, Err}
use Rattle.std.specs.Io.KnownBytes.{Consumes, IsAtEnd}
use Rattle.stdin.specs.Stdin.{count_of, PossibleRead}
use Rattle.stdin.specs.Star.{Star}
use Rattle.stdin.specs.declared.ReadFailed.{ReadFailed}
use Rattle.text.specs.Text.{Bytes}
use Rattle.verdict.specs.declared.input.Buffer.{Buffer}

-- The bytes that came stand at the buffer's front, in order, as many as fit; `len` is how many came, or one more than
-- fit where more came.
pub record BufferHolds (came : Bytes) (a : Buffer) : Type 0 where
  pub kept : take a.len a.text.now ≡ take (length a.text.now) came
  pub count : a.len ≡ min (length came) (length a.text.now + 1)

-- the text is the slice that was lent
pub record KeepsBuffer (a b : Buffer) : Type 0 where
  pub same_text : b.text.ghost_name ≡ a.text.ghost_name
  pub long : length b.text.now ≡ length a.text.now

-- `part` came after what there was
pub record FeedEnsures (part : Bytes) (a b : Buffer) : Type 0 where
  pub on : (came : Bytes) → BufferHolds came a → BufferHolds (came ++ part) b

-- a read, whatever it answered and put into its buffer: what it says came was taken in
pub record ReadEnsures (a b : Buffer) (r : Result ℕ ReadFailed) : Type 0 where
  pub part : Bytes
  pub possible : PossibleRead (length part) r
  pub feeds : FeedEnsures (take (count_of r) part) a b

-- a read, where it may be known what the input gives (w before it, w' after it): what came was taken from there into
-- the buffer, and none came only where nothing was left
pub record ReadTakes (w w' : Option Bytes) (a b : Buffer) (r : Result ℕ ReadFailed) : Type 0 where
  pub part : Bytes
  pub feeds : FeedEnsures part a b
  pub consumes : Consumes w w' part
  pub ended : r ≡ Ok 0 → IsAtEnd w'

-- one read more, into the same slice: it brought bytes
pub record ReadStep (a b : Buffer) : Type 0 where
  pub keeps : KeepsBuffer a b
  pub more : ℕ
  pub read : ReadEnsures a b (Ok (suc more))

-- read after read into this buffer, emptied: its text as it was, and no byte of it counted; each brought bytes
pub record ReadsMore (a b : Buffer) : Type 0 where
  pub start : Buffer
  pub text : start.text ≡ a.text
  pub empty : start.len ≡ 0
  pub steps : Star ReadStep start b

-- After them came the read that said that the input has ended; or one that failed, or none.
abbrev pub LastRead : Buffer → Buffer → Result ⊤ ReadFailed → Type 0
LastRead a b (Ok _) = ReadEnsures a b (Ok 0)
LastRead a b (Err e) = ReadEnsures a b (Err e)

-- Read after read into this buffer, emptied, to the last one.
pub record Reads (a b : Buffer) (r : Result ⊤ ReadFailed) : Type 0 where
  pub before : Buffer
  pub more : ReadsMore a before
  pub last : LastRead before b r

-- what the buffer holds was taken from an input of which it may be known what it gives (w before that, w' after it)
pub record Taken (w w' : Option Bytes) (a : Buffer) : Type 0 where
  pub came : Bytes
  pub holds : BufferHolds came a
  pub consumes : Consumes w w' came

-- used by the proofs alone

-- what the buffer holds is what some bytes leave in it
pub record Held (a : Buffer) : Type 0 where
  pub came : Bytes
  pub holds : BufferHolds came a
