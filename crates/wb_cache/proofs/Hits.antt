-- What the calls on a line come to, on a hit and on a miss.
use Rattle.std.proofs.Common.{◌≡◌, ℕ, ◌/◌, ◌%◌, sym}
use Rattle.std.specs.Prelude.{Some, None}
use Rattle.wb_cache.specs.Contents.{Contents, slots}
use Rattle.wb_cache.specs.Lookup.{way_of, set_of}
use Rattle.wb_cache.specs.Access.{word_of, byte_of, word_at, read, written, put, touched}

pub word_of-hit : (c : Contents) (line word way : ℕ) → Some way ≡ way_of c.shape (slots c) line
    → word_of c line word ≡ Some (word_at (slots c (set_of c.shape line) way) word)
unfolding word_of
word_of-hit c line word way h = rw (sym h)

pub word_of-miss : (c : Contents) (line word : ℕ) → None ≡ way_of c.shape (slots c) line → word_of c line word ≡ None
unfolding word_of
word_of-miss c line word h = rw (sym h)

pub byte_of-hit : (c : Contents) (addr way : ℕ) → Some way ≡ way_of c.shape (slots c) (addr / 16)
    → byte_of c addr ≡ Some ((slots c (set_of c.shape (addr / 16)) way).bytes (addr % 16))
unfolding byte_of
byte_of-hit c addr way h = rw (sym h)

pub byte_of-miss : (c : Contents) (addr : ℕ) → None ≡ way_of c.shape (slots c) (addr / 16) → byte_of c addr ≡ None
unfolding byte_of
byte_of-miss c addr h = rw (sym h)

pub read-hit : (c : Contents) (line way : ℕ) → Some way ≡ way_of c.shape (slots c) line → read line c ≡ touched (set_of c.shape line) way c
unfolding read
read-hit c line way h = rw (sym h)

pub read-miss : (c : Contents) (line : ℕ) → None ≡ way_of c.shape (slots c) line → read line c ≡ c
unfolding read
read-miss c line h = rw (sym h)

pub written-hit : (c : Contents) (line word mask value way : ℕ) → Some way ≡ way_of c.shape (slots c) line
    → written line word mask value c ≡ put (set_of c.shape line) way word mask value c
unfolding written
written-hit c line word mask value way h = rw (sym h)

pub written-miss : (c : Contents) (line word mask value : ℕ) → None ≡ way_of c.shape (slots c) line → written line word mask value c ≡ c
unfolding written
written-miss c line word mask value h = rw (sym h)

pub ruleset hits = (word_of-hit, word_of-miss, byte_of-hit, byte_of-miss, read-hit, read-miss, written-hit, written-miss)
