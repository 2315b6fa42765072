-- The words of session calls (document 01, "Session calls"; document 02, `on` and `lows`).
use Rattle.std.specs.Prelude.{cond, Option, Some, None}
use Rattle.text.specs.Text.{Bytes, bytes, same_bytes}
use Rattle.text.specs.declared.words.Word.{Word}
use Rattle.text.specs.declared.words.Word.TheVariants.{Put, Unit as UnitWord, Add, Cont, Low, Drop, Collect, At}
use Rattle.text.specs.declared.words.Word.TheVariants.{Cmp, On, Lows}

-- "unknown word": the words but `gate`, whose fields are not all numbers
unfoldable pub word_of : Bytes → Option Word
word_of s =
    cond (same_bytes s (bytes "put")) (Some Put)
    (cond (same_bytes s (bytes "unit")) (Some UnitWord)
    (cond (same_bytes s (bytes "add")) (Some Add)
    (cond (same_bytes s (bytes "cont")) (Some Cont)
    (cond (same_bytes s (bytes "low")) (Some Low)
    (cond (same_bytes s (bytes "drop")) (Some Drop)
    (cond (same_bytes s (bytes "collect")) (Some Collect)
    (cond (same_bytes s (bytes "at")) (Some At)
    (cond (same_bytes s (bytes "cmp")) (Some Cmp)
    (cond (same_bytes s (bytes "on")) (Some On)
    (cond (same_bytes s (bytes "lows")) (Some Lows)
    None))))))))))
