-- What the text of the delete means.
use Rattle.std.proofs.Common.{◌≡◌, pos, negsuc, [], ◌∷◌, false, None, refl}
use Rattle.sqlite_tied.specs.Compute.{everything}
use Rattle.sqlite.specs.declared.types.Value.TheVariants.{Int}
use Rattle.sqlite.specs.Term.{lit, col}
use Rattle.sqlite.specs.Query.{Query, inner, end}
use Rattle.sqlite.specs.Command.TheVariants.{Delete}
use Rattle.sqlite.specs.Listing.{understood}
use Rattle.sqlite.proofs.Callers.{IsPlain, command_of}
use Rattle.row_table.specs.Tables.{store_schema}
use Rattle.row_table.specs.Texts.{delete_text}
use Rattle.row_table.proofs.Words.{tests}

-- the rowids of the rows that the DELETE names
abbrev pub named : Query
named = record {
  from = inner 0 end;
  filter = tests;
  group = None;
  project = col 1 0 ∷ [];
  distinct = false;
  collations = [];
  order = [];
  limit = lit (Int (negsuc 0));
  offset = lit (Int (pos 0));
}

pub delete_is : command_of (understood store_schema delete_text) ≡ Delete 0 (record { lets = []; body = named })
unfolding understood everything
delete_is = refl

pub delete_plain : IsPlain (understood store_schema delete_text)
unfolding understood everything
delete_plain = (refl, refl)
