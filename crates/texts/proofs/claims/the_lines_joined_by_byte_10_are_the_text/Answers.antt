use Rattle.texts.proofs.Joined.{lines_make_the_text}
use Rattle.texts.proofs.claims.the_lines_joined_by_byte_10_are_the_text.Goals as goal

pub returns : goal.returns
returns c = lines_make_the_text
