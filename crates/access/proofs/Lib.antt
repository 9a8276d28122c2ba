mod Planning
