-- What the parts of literal requests are.
use Rattle.std.proofs.Common.{◌≡◌, ℕ, List, [], codes, Some, None, refl, sym}
use lib.Utf8.{encode}
use Rattle.percent_encoding.specs.Percent.{percent_decode}
use Rattle.form_urlencoded.specs.Form.{raw_pairs, split}
use Rattle.request_parts.specs.Names.{name_of}
use Rattle.request_parts.specs.Paths.{segment, read_in_path}
use Rattle.request_parts.specs.Queries.{query_value}
use Rattle.request_parts.proofs.Texts.{segment_is_text}

-- an empty query has no key
pub no_query : (key : List ℕ) → query_value key [] ≡ None
unfolding query_value raw_pairs split
no_query key = refl

pub ann_is_read : read_in_path name_of 4 (codes "/hub/api/users/ann") ≡ Some (codes "ann")
unfolding segment percent_decode encode
ann_is_read =
    sym (segment_is_text name_of 4 (codes "/hub/api/users/ann") (codes "ann") refl (codes "ann", (refl, refl)))
