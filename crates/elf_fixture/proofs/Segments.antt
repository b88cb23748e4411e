-- The headers and the bytes of the segments so far, and of one more.
use Rattle.std.proofs.Common.{◌≡◌, ◌<◌, ℕ, ◌+◌, ◌*◌, ◌%◌, ◌^◌, List, [], ◌∷◌, length, ◌++◌, take, get_or, arith, sym, ap, ◌∙◌, append-nil}
use Rattle.std.proofs.Math.Pow.{mod-mod-pow}
use Rattle.std.proofs.Math.Seq.{take-length}
use Rattle.std.proofs.lemmas.Grind.{flat_map-append}
use Rattle.std.proofs.lemmas.List.{length-append, take_more}
use Rattle.elf_fixture.specs.declared.Header.{Header}
use Rattle.elf_fixture.specs.declared.Segment.{Segment}
use Rattle.elf_fixture.specs.Files.{file_of, segment_bytes, segment_header, segment_headers, segmented_file}

-- one segment behind the others
headers-behind : (at : ℕ) (segments : List Segment) (s : Segment)
    → segment_headers at (segments ++ s ∷ []) ≡ segment_headers at segments ++ segment_header (at + length (segment_bytes segments)) s ∷ []
headers-behind at [] s = ap (λ (n : ℕ). segment_header n s ∷ []) (omega arith)
headers-behind at (x ∷ rest) s =
    let far : at + length x.bytes.now + length (segment_bytes rest) ≡ at + length (segment_bytes (x ∷ rest)) =
    omega (arith, length-append x.bytes.now (segment_bytes rest)) in
    ap (λ (hs : List Header). segment_header at x ∷ hs)
    (headers-behind (at + length x.bytes.now) rest s
    ∙ ap (λ (n : ℕ). segment_headers (at + length x.bytes.now) rest ++ segment_header n s ∷ []) far)

-- an offset counts modulo 2^32, so it may wrap at 2^64
wrapped : (n : ℕ) (s : Segment) → segment_header (n % 2 ^ 64) s ≡ segment_header n s
wrapped n s = ap (λ (k : ℕ). record (segment_header n s) { offset = k }) (mod-mod-pow n 32 32)

pub headers_more : (segments : List Segment) (i start : ℕ) (d : Segment) → i < length segments
    → segment_headers start (take (i + 1) segments)
    ≡ segment_headers start (take i segments)
    ++ segment_header ((start + length (segment_bytes (take i segments))) % 2 ^ 64) (get_or segments i d) ∷ []
headers_more segments i start d l =
    let at : ℕ = start + length (segment_bytes (take i segments)) in
    ap (segment_headers start) (take_more segments i d l)
    ∙ headers-behind start (take i segments) (get_or segments i d)
    ∙ ap (λ (h : Header). segment_headers start (take i segments) ++ h ∷ []) (sym (wrapped at (get_or segments i d)))

pub bytes_more : (segments : List Segment) (i : ℕ) (d : Segment) → i < length segments
    → segment_bytes (take (i + 1) segments) ≡ segment_bytes (take i segments) ++ (get_or segments i d).bytes.now
bytes_more segments i d l =
    ap segment_bytes (take_more segments i d l)
    ∙ flat_map-append (λ (s : Segment). s.bytes.now) (take i segments) (get_or segments i d ∷ [])
    ∙ ap (λ (bytes : List ℕ). segment_bytes (take i segments) ++ bytes) (append-nil (get_or segments i d).bytes.now)

-- a file of the headers and the bytes of all segments
pub made : (segments : List Segment) (headers : List Header) (bytes whole : List ℕ) (k start : ℕ) → whole ≡ file_of headers bytes
    → headers ≡ segment_headers start (take k segments) → bytes ≡ segment_bytes (take k segments) → k ≡ length segments
    → start ≡ 52 + 32 * length segments → whole ≡ segmented_file segments
made segments headers bytes whole k start e h b l st =
    let all : take k segments ≡ segments = ap (λ (n : ℕ). take n segments) l ∙ take-length segments in
    e
    ∙ ap (λ (hs : List Header). file_of hs bytes) (h ∙ ap (segment_headers start) all ∙ ap (λ (n : ℕ). segment_headers n segments) st)
    ∙ ap (file_of (segment_headers (52 + 32 * length segments) segments)) (b ∙ ap segment_bytes all)
